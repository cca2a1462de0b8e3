-- The blocks of a cut, and their bounds.
use Rattle.std.proofs.Common.{◌≡◌, ℕ, zero, suc, ◌+◌, ◌-◌, ◌<◌, ◌≤◌, List, [], ◌∷◌, ◌++◌, length, All, Some, refl, sym, ap, subst, ◌∙◌, inl, inr, arith, length-append, add-one}
use Rattle.std.specs.Prelude.{slice_get, flat_map, sum_by}
use Rattle.std.proofs.lemmas.Bool.{cases_lt}
use Rattle.std.proofs.lemmas.List.{append-nil, append_assoc, take-append-le, take_at}
use Rattle.std.proofs.lemmas.List.Concat.{flat_map-append}
use Rattle.std.proofs.lemmas.List.Elements.{All-push}
use Rattle.std.proofs.lemmas.List.Sums.{sum_by-cons, sum_by_push}
use Rattle.std.proofs.lemmas.Option.{same_Some, slice_get_within}
use Rattle.ix_text.specs.Collections.{NamedText}
use Rattle.ix_build.specs.declared.plan.Cut.{Cut}
use Rattle.ix_build.specs.declared.plan.Cut.TheVariants.{Docs, Bytes}
use Rattle.ix_build.specs.Blocks.{cut_number, weight_of, IsFull, IsFullNoSooner, AreBounds, AscendUpTo, bounds_from}

-- ---- bounds

-- the elements of blocks, one block after another
abbrev pub all_in : {X : Type 0} → List (List X) → List X
all_in blocks = flat_map (λ block. block) blocks

-- one more block has one more bound: its end
bounds_push : {X : Type 0} (first : ℕ) (blocks : List (List X)) (block : List X) (end : ℕ) → end ≡ first + length (all_in blocks) + length block → bounds_from first (blocks ++ block ∷ []) ≡ bounds_from first blocks ++ end ∷ []
bounds_push first [] block end is = ap (λ (n : ℕ). first ∷ n ∷ []) (omega (arith, is))
bounds_push first (b ∷ blocks) block end is =
    ap (λ (l : List ℕ). first ∷ l) (bounds_push (first + length b) blocks block end (omega (arith, is, length-append b (all_in blocks))))

bounds_head : {X : Type 0} (first : ℕ) (blocks : List (List X)) → slice_get (bounds_from first blocks) 0 ≡ Some first
bounds_head first [] = refl
bounds_head first (b ∷ blocks) = refl

get_next : {A : Type 0} (x : A) (xs : List A) (place : ℕ) → slice_get (x ∷ xs) (place + 1) ≡ slice_get xs place
get_next x xs place = rw add-one refl

bounds_ascend : {X : Type 0} (first count : ℕ) (blocks : List (List X)) → first + length (all_in blocks) ≤ count → AscendUpTo count (bounds_from first blocks)
bounds_ascend first count [] few place from to begins ends = absurd (let within = slice_get_within (first ∷ []) (place + 1) to ends in omega (arith, within))
bounds_ascend first count (b ∷ blocks) few zero from to begins ends =
    let e : Some (first + length b) ≡ Some to = sym (bounds_head (first + length b) blocks) ∙ (sym (get_next first (bounds_from (first + length b) blocks) zero) ∙ ends) in
    let is_to = same_Some (first + length b) to e in
    let is_from = same_Some first from begins in
    let size = length-append b (all_in blocks) in (omega (arith, is_to, is_from), omega (arith, is_to, few, size))
bounds_ascend first count (b ∷ blocks) few (suc place) from to begins ends =
    let rest = bounds_from (first + length b) blocks in
    let next : place + 1 ≡ suc place = omega arith in
    bounds_ascend (first + length b) count blocks (omega (arith, few, length-append b (all_in blocks))) place from to begins
    (ap (λ (n : ℕ). slice_get rest n) next ∙ (sym (get_next first rest (suc place)) ∙ ends))

-- ---- full blocks

ones : {X : Type 0} (xs : List X) → sum_by (λ _. 1) xs ≡ length xs
ones [] = refl
ones {X} (x ∷ xs) = let one = sum_by-cons (λ (_ : X). 1) x xs in let more = ones xs in omega (arith, one, more)

is_full : (cut : Cut) (block : List NamedText) → cut_number cut ≤ sum_by (weight_of cut) block → IsFull cut block
is_full (Docs n) block enough = let size = ones block in omega (arith, size, enough)
is_full (Bytes n) block enough = enough

is_not_full : (cut : Cut) (block : List NamedText) → sum_by (weight_of cut) block < cut_number cut → IsFull cut block → ⊥
is_not_full (Docs n) block less full = let size = ones block in omega (arith, size, less, full)
is_not_full (Bytes n) block less full = omega (arith, less, full)

none_sooner : (cut : Cut) → IsFullNoSooner cut []
none_sooner cut count within full = omega (arith, within)

sooner_push : (cut : Cut) (block : List NamedText) (text : NamedText) → IsFullNoSooner cut block → (IsFull cut block → ⊥) → IsFullNoSooner cut (block ++ text ∷ [])
sooner_push cut block text sooner not_full count within full =
    let size = length-append block (text ∷ []) in
    elim (cases_lt count (length block)) [
      | inl short ↦ sooner count short (subst (IsFull cut) (take-append-le count block (text ∷ []) (omega (arith, short))) full)
      | inr long ↦ not_full (subst (IsFull cut) (take_at block (text ∷ []) count (omega (arith, long, within, size))) full)
    ]

-- ---- blocks as they are found

-- The texts so far are cut into blocks that are full, and the block at hand, which has this room left.
pub record AreCut (cut : Cut) (texts : List NamedText) (bounds : List ℕ) (left : ℕ) : Type 0 where
  pub closed : List (List NamedText)
  pub last : List NamedText
  pub bounds_are : bounds ≡ bounds_from 0 closed
  pub whole : all_in closed ++ last ≡ texts
  pub full : All (IsFull cut) closed
  pub closed_no_sooner : All (IsFullNoSooner cut) closed
  pub no_sooner : IsFullNoSooner cut last
  pub left_is : left ≡ cut_number cut - sum_by (weight_of cut) last
  pub not_empty : 0 < length texts → 0 < length last
  pub one : texts ≡ [] → closed ≡ []

push_not_nil : {X : Type 0} (xs : List X) (x : X) → xs ++ x ∷ [] ≡ [] → ⊥
push_not_nil xs x is = let size = length-append xs (x ∷ []) in let none = ap length is in omega (arith, size, none)

-- a document more in the block at hand, which is not full
pub text_more : (cut : Cut) (texts : List NamedText) (bounds : List ℕ) (left : ℕ) (text : NamedText) → AreCut cut texts bounds left → 0 < left → AreCut cut (texts ++ text ∷ []) bounds (left - weight_of cut text)
text_more cut texts bounds left text are room = record {
  closed = are.closed;
  last = are.last ++ text ∷ [];
  bounds_are = are.bounds_are;
  whole = sym (append_assoc (all_in are.closed) are.last (text ∷ [])) ∙ ap (λ (l : List NamedText). l ++ text ∷ []) are.whole;
  full = are.full;
  closed_no_sooner = are.closed_no_sooner;
  no_sooner = let is = are.left_is in sooner_push cut are.last text are.no_sooner (is_not_full cut are.last (omega (arith, is, room)));
  left_is = let is = are.left_is in let more = sum_by_push (weight_of cut) are.last text in omega (arith, is, more);
  not_empty = λ _. let size = length-append are.last (text ∷ []) in omega (arith, size);
  one = λ none. absurd (push_not_nil texts text none);
}

-- the block at hand is full, and the next one begins with one document
pub block_more : (cut : Cut) (texts : List NamedText) (bounds : List ℕ) (text : NamedText) (number : ℕ) → 0 < cut_number cut → AreCut cut texts bounds 0 → number ≡ length texts → AreCut cut (texts ++ text ∷ []) (bounds ++ number ∷ []) (cut_number cut - weight_of cut text)
block_more cut texts bounds text number some are is_number = record {
  closed = are.closed ++ are.last ∷ [];
  last = text ∷ [];
  bounds_are =
      let size = length-append (all_in are.closed) are.last in
      let counted = ap length are.whole in
      ap (λ (l : List ℕ). l ++ number ∷ []) are.bounds_are ∙ sym (bounds_push 0 are.closed are.last number (omega (arith, is_number, size, counted)));
  whole = ap (λ (l : List NamedText). l ++ text ∷ []) (all_push are.closed are.last ∙ are.whole);
  full = let is = are.left_is in All-push (IsFull cut) are.closed are.last are.full (is_full cut are.last (omega (arith, is)));
  closed_no_sooner = All-push (IsFullNoSooner cut) are.closed are.last are.closed_no_sooner are.no_sooner;
  no_sooner = sooner_push cut [] text (none_sooner cut) (is_not_full cut [] some);
  left_is = let more = sum_by-cons (weight_of cut) text [] in omega (arith, more);
  not_empty = λ _. omega arith;
  one = λ none. absurd (push_not_nil texts text none);
}
  where
    all_push : (blocks : List (List NamedText)) (block : List NamedText) → all_in (blocks ++ block ∷ []) ≡ all_in blocks ++ block
    all_push blocks block = flat_map-append (λ (b : List NamedText). b) blocks (block ∷ []) ∙ ap (λ (l : List NamedText). all_in blocks ++ l) (append-nil block)

-- the same of equal bounds and equal room
pub same_cut : (cut : Cut) (texts : List NamedText) (bounds same : List ℕ) (left rest : ℕ) → same ≡ bounds → rest ≡ left → AreCut cut texts bounds left → AreCut cut texts same rest
same_cut cut texts bounds same left rest b l are =
    subst (λ (n : ℕ). AreCut cut texts same n) (sym l) (subst (λ (bs : List ℕ). AreCut cut texts bs left) (sym b) are)

-- all documents are cut
pub all_cut : (cut : Cut) (texts : List NamedText) (bounds : List ℕ) (left count : ℕ) → AreCut cut texts bounds left → count ≡ length texts → AreBounds cut texts (bounds ++ count ∷ [])
all_cut cut texts bounds left count are is_count = record {
  blocks = are.closed ++ are.last ∷ [];
  of_cut = record {
    before = are.closed;
    last = are.last;
    in_order = refl;
    whole = flat_map-append (λ (b : List NamedText). b) are.closed (are.last ∷ []) ∙ ap (λ (l : List NamedText). all_in are.closed ++ l) (append-nil are.last) ∙ are.whole;
    full = are.full;
    no_sooner = All-push (IsFullNoSooner cut) are.closed are.last are.closed_no_sooner are.no_sooner;
    not_empty = are.not_empty;
    one = are.one;
  };
  bounds_are =
      let size = length-append (all_in are.closed) are.last in
      let counted = ap length are.whole in
      ap (λ (l : List ℕ). l ++ count ∷ []) are.bounds_are ∙ sym (bounds_push 0 are.closed are.last count (omega (arith, is_count, size, counted)));
}

-- the bounds of blocks ascend up to the number of their texts
pub are_ascending : (cut : Cut) (texts : List NamedText) (bounds : List ℕ) (count : ℕ) → AreBounds cut texts bounds → count ≡ length texts → AscendUpTo count bounds
are_ascending cut texts bounds count are is_count =
    let counted = ap length are.of_cut.whole in
    subst (AscendUpTo count) (sym are.bounds_are) (bounds_ascend 0 count are.blocks (omega (arith, is_count, counted)))
