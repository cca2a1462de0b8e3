use Rattle.std.proofs.Common.{◌-◌, ◌^◌, length}
use Rattle.ix_run.proofs.RunFiles.{ReadsOn}
use Rattle.ix_run.proofs.read.read_terms.Given as goal

abbrev pub invariant-loop-positions : goal.invariant-loop-positions
invariant-loop-positions g l = ReadsOn g.R.Read.remaining l.fn.reader l.reader l.terms

abbrev pub decreases-loop-positions : goal.decreases-loop-positions
decreases-loop-positions g l = 2 ^ 28 - length l.terms
