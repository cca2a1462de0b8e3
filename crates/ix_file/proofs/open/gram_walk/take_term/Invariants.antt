use Rattle.std.proofs.Common.{◌≡◌, ◌++◌, [], ℕ, List, Some, slice_get}
use Rattle.ix_file.specs.GramWalks.{AreWalked}
use Rattle.ix_index_text.specs.TermWindows.{windows_of_term}
use Rattle.ix_file.specs.declared.open.grams.GramRow.{GramRow}
use Rattle.ix_index_text.specs.declared.windows.Gram.{Gram}
use Rattle.ix_file.proofs.open.gram_walk.take_term.Given as goal

-- the windows so far were seen
abbrev pub invariant-loop-gram : goal.invariant-loop-gram
invariant-loop-gram l = record {
  can : (goal.iterator-loop-gram).can_next l.gram-iterator;
  ends : (goal.iterator-loop-gram).is_finite l.gram-iterator;
  seen : List Gram;
  whole : seen ++ l.gram-iterator ≡ windows_of_term l.term;
  holds : (terms : List (List ℕ)) (section : List ℕ) (rows : List GramRow) → slice_get terms l.number ≡ Some l.term → AreWalked l.side terms section rows l.number [] l.initial.cursors → AreWalked l.side terms section rows l.number seen l.cursors;
}
