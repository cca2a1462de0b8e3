use Rattle.ix_run.proofs.StretchMarks.{AreMarkedTo}
use Rattle.ix_run.proofs.span.mark_stretches.Given as goal

-- the documents so far have marked their stretches
abbrev pub invariant-loop-document : goal.invariant-loop-document
invariant-loop-document l = AreMarkedTo l.ends l.marks.items l.document
