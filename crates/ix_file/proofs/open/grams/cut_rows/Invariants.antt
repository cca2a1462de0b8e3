use Rattle.std.proofs.Common.{length}
use Rattle.ix_file.proofs.GramCutting.{AreCutSoFar}
use Rattle.ix_file.proofs.open.grams.cut_rows.Given as goal

abbrev pub invariant-loop-left : goal.invariant-loop-left
invariant-loop-left l = AreCutSoFar l.section l.rows.items l.left

abbrev pub decreases-loop-left : goal.decreases-loop-left
decreases-loop-left l = length l.left
