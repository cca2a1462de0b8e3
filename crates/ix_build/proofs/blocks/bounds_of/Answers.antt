use Rattle.std.proofs.Common.{◌≡◌, ◌<◌, List, [], ◌∷◌, ◌++◌, length, map, ℕ, ◌+◌, ◌-◌, ◌≤◌, take, get_or, arith, ap, ap₂, sym, subst, ◌∙◌, Vec, Global}
use Rattle.std.proofs.lemmas.List.{length-map, length-take-le, map-append, take_all, take_more}
use Rattle.ix_text.specs.Collections.{NamedText}
use Rattle.ix_text.specs.Docs.{named_text}
use Rattle.ix_build.specs.Blocks.{AreBounds, cut_number, weight_of}
use Rattle.ix_build.proofs.BlockLemmas.{AreCut, text_more, block_more, same_cut, all_cut, are_ascending}
use Rattle.ix_build.proofs.blocks.bounds_of.Goals.{then-left-eq0+in_ok-push-2, else-left-eq0}
use Rattle.ix_build.proofs.blocks.bounds_of.Goals as goal

-- what a map makes of the elements before the next index
map_take_more : {A B : Type 0} (f : A → B) (xs : List A) (i : ℕ) (x : A) → i < length xs → x ≡ get_or xs i x → map f (take (i + 1) xs) ≡ map f (take i xs) ++ f x ∷ []
map_take_more f xs i x within is =
    ap (map f) (take_more xs i x within ∙ ap (λ y. take i xs ++ y ∷ []) (sym is)) ∙ map-append f (take i xs) (x ∷ [])

pub loop-number-preserved : goal.loop-number-preserved
loop-number-preserved c =
    let cut = c.args.cut in
    let doc = c.index-docs-number.result in
    let texts = map named_text (take c.loop-number.number c.args.docs.now) in
    let more = map_take_more named_text c.args.docs.now c.loop-number.number doc c.loop-number-test.true c.index-docs-number.is in
    let is_number : c.loop-number.number ≡ length texts = sym (length-map (take c.loop-number.number c.args.docs.now) named_text ∙ length-take-le c.loop-number.number c.args.docs.now (omega arith)) in
    let P : List NamedText → Type 0 = λ t. AreCut cut t c.if-left-eq0.bounds.items c.saturating_sub-left.result in
    let text = named_text doc in
    let left_is = c.saturating_sub-left.ensures in
    let weight_is = c.weight.ensures in
    subst P (sym more)
    (elim c.if-left-eq0.branch [
      | then-left-eq0+in_ok-push-2 w ↦
          let room_is = w.left-is in
          let number_is = w.number-left-then-left-eq0.ensures in
          let full : AreCut cut texts c.loop-number.bounds.items 0 = subst (λ (n : ℕ). AreCut cut texts c.loop-number.bounds.items n) w.if-left-eq0.true c.loop-number.invariant in
          same_cut cut (texts ++ text ∷ []) (c.loop-number.bounds.items ++ c.loop-number.number ∷ []) c.if-left-eq0.bounds.items (cut_number cut - weight_of cut text) c.saturating_sub-left.result
          (ap (λ (v : Vec ℕ Global). v.items) w.bounds-is ∙ w.in_ok-push-2.ensures.items)
          (left_is ∙ ap₂ (λ (a b : ℕ). a - b) (room_is ∙ number_is) weight_is)
          (block_more cut texts c.loop-number.bounds.items text c.loop-number.number c.requires full is_number)
      | else-left-eq0 w ↦
          let not_full = w.if-left-eq0.false in
          same_cut cut (texts ++ text ∷ []) c.loop-number.bounds.items c.if-left-eq0.bounds.items (c.loop-number.left - weight_of cut text) c.saturating_sub-left.result
          (ap (λ (v : Vec ℕ Global). v.items) w.bounds-is)
          (left_is ∙ ap₂ (λ (a b : ℕ). a - b) w.left-is weight_is)
          (text_more cut texts c.loop-number.bounds.items c.loop-number.left text c.loop-number.invariant (omega (arith, not_full)))
    ])

-- all documents
texts_are : {A B : Type 0} (f : A → B) (xs : List A) (i : ℕ) → length xs ≤ i → map f (take i xs) ≡ map f xs
texts_are f xs i past = ap (map f) (take_all i xs past)

pub returns-clause-bounds : goal.returns-clause-bounds
returns-clause-bounds c =
    let docs = c.args.docs.now in
    let at_end : length docs ≤ c.loop-number.number = omega arith in
    let are : AreCut c.args.cut (map named_text docs) c.loop-number.bounds.items c.loop-number.left = subst (λ (t : List NamedText). AreCut c.args.cut t c.loop-number.bounds.items c.loop-number.left) (texts_are named_text docs c.loop-number.number at_end) c.loop-number.invariant in
    subst (AreBounds c.args.cut (map named_text docs)) (sym c.in_ok-push-3.ensures.items)
    (all_cut c.args.cut (map named_text docs) c.loop-number.bounds.items c.loop-number.left (length docs) are (sym (length-map docs named_text)))

pub returns-clause-ascending : goal.returns-clause-ascending
returns-clause-ascending c = are_ascending c.args.cut (map named_text c.args.docs.now) c.push-2.new.self.items (length c.args.docs.now) (returns-clause-bounds c) (sym (length-map c.args.docs.now named_text))
