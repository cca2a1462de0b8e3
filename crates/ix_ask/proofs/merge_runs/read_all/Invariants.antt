-- the texts so far are read
use Rattle.ix_ask.specs.Merging.{texts_behind}
use Rattle.ix_ask.proofs.MergingLemmas.{AreReadingSoFar}
use Rattle.ix_ask.proofs.merge_runs.read_all.Given as goal

abbrev pub invariant-loop-place : goal.invariant-loop-place
invariant-loop-place l = AreReadingSoFar (texts_behind l.runs) l.readers.items l.place
