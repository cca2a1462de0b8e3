use Rattle.std.proofs.Common.{◌≡◌, ◌∷◌, ◌++◌, List, ℕ, [], sym, ap, ◌∙◌, append_assoc}
use Rattle.ix_text.specs.Parts.{terms_of}
use Rattle.ix_text.specs.Windows.{trigram_list}
use Rattle.ix_gram.proofs.PatternGrams.{adds-more, contains_there, held_nowhere, list_holds}
use Rattle.ix_gram.proofs.grams.add_lists.Goals as goal

pub returns-in_default-clause-nowhere : goal.returns-in_default-clause-nowhere
returns-in_default-clause-nowhere c _ =
    let left = c.loop-gram.invariant.left in
    let at : trigram_list c.args.text.now ≡ left.0 ++ (c.in-Some.gram.now ∷ c.next.new.self) = left.1 ∙ ap (λ grams. left.0 ++ grams) c.in-Some.ensures.steps in
    held_nowhere (terms_of c.args.index.now.parts.entries) c.args.index.now.grams c.args.text.now c.in-Some.gram.now c.opened_parts_are_lawful.ensures.grams
    (contains_there (trigram_list c.args.text.now) left.0 c.next.new.self c.in-Some.gram.now at) c.in_default.ensures

pub loop-gram-preserved : goal.loop-gram-preserved
loop-gram-preserved c =
    let terms : List (List ℕ) = terms_of c.args.index.now.parts.entries in
    let left = c.loop-gram.invariant.left in
    let at : trigram_list c.args.text.now ≡ left.0 ++ (c.in-Some.gram.now ∷ c.next.new.self) = left.1 ∙ ap (λ grams. left.0 ++ grams) c.in-Some.ensures.steps in
    let there = contains_there (trigram_list c.args.text.now) left.0 c.next.new.self c.in-Some.gram.now at in
    record {
      can = tt;
      ends = tt;
      left = (left.0 ++ c.in-Some.gram.now ∷ [], at ∙ sym (append_assoc left.0 (c.in-Some.gram.now ∷ []) c.next.new.self));
      added = rw c.in_ok-push.ensures.items
          (adds-more terms c.args.text.now c.args.lists.now.items c.loop-gram.lists.items c.in-Some-gram.numbers c.loop-gram.invariant.added
          (list_holds terms c.args.index.now.grams c.args.text.now c.in-Some.gram.now c.in-Some-gram.numbers c.opened_parts_are_lawful.ensures.grams there c.in-Some-gram.ensures));
    }
