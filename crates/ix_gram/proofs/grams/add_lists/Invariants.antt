use Rattle.std.proofs.Common.{◌≡◌, ◌++◌, List, ℕ}
use Rattle.ix_text.specs.Parts.{terms_of}
use Rattle.ix_text.specs.Windows.{trigram_list}
use Rattle.ix_gram.specs.Candidates.{AddsLists}
use Rattle.ix_gram.proofs.grams.add_lists.Given as goal

-- what is left are windows of the text, and each list that was added is that of one
abbrev pub invariant-loop-gram : goal.invariant-loop-gram
invariant-loop-gram l = record {
  can : (goal.iterator-loop-gram).can_next l.gram-iterator;
  ends : (goal.iterator-loop-gram).is_finite l.gram-iterator;
  left : (passed : List (List ℕ)) × (trigram_list l.text ≡ passed ++ l.gram-iterator);
  added : AddsLists (terms_of l.index.parts.entries) l.text l.fn.lists.items l.lists.items;
}
