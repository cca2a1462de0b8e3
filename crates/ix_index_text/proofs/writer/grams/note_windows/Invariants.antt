use Rattle.std.proofs.Common.{◌≡◌, ℕ, ◌+◌, List, [], length}
use Rattle.ix_index_text.specs.Grams.{IsGramOfTerm}
use Rattle.ix_index_text.specs.GramTables.{HoldsRelation}
use Rattle.ix_index_text.specs.declared.windows.GramPair.{GramPair}
use Rattle.ix_index_text.proofs.HeldLemmas.{SeenToo}
use Rattle.ix_index_text.proofs.TermPairs.{IsUnderWay}
use Rattle.ix_index_text.proofs.writer.grams.note_windows.Given as goal

-- the windows so far are noted
abbrev pub invariant-loop-gram : goal.invariant-loop-gram
invariant-loop-gram l = record {
  can : (goal.iterator-loop-gram).can_next l.gram-iterator;
  ends : (goal.iterator-loop-gram).is_finite l.gram-iterator;
  seen : List GramPair;
  under_way : IsUnderWay [] l.number l.term seen l.gram-iterator;
  holds : (terms : List (List ℕ)) → l.number ≡ length terms → HoldsRelation l.initial.lists l.number (IsGramOfTerm terms) → HoldsRelation l.lists (l.number + 1) (SeenToo terms seen);
}
