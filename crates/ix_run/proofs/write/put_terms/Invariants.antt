use Rattle.std.proofs.Common.{length}
use Rattle.ix_run.proofs.HeldTermLemmas.{IsPutBefore}
use Rattle.ix_run.proofs.write.put_terms.Given as goal

-- the terms before those that are left are out
abbrev pub invariant-loop-term : goal.invariant-loop-term
invariant-loop-term g l = IsPutBefore (g.W.Write.contents l.initial.out) (g.W.Write.contents l.out) l.terms l.walk

abbrev pub decreases-loop-term : goal.decreases-loop-term
decreases-loop-term g l = length l.walk
