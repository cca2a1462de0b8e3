use Rattle.std.proofs.Common.{◌≡◌, ◌++◌, length}
use Rattle.ix_removals.specs.RemovalsText.{AreRemovals, removals_text}
use Rattle.ix_removals.proofs.reading.read.Given as goal

abbrev pub invariant-loop-left : goal.invariant-loop-left
invariant-loop-left l = record {
  lawful : AreRemovals l.removals;
  joined : l.bytes ≡ removals_text l.removals ++ l.left;
}

abbrev pub decreases-loop-left : goal.decreases-loop-left
decreases-loop-left l = length l.left
