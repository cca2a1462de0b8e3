use Rattle.ix_query.proofs.PhraseLemmas.{StartsBefore}
use Rattle.ix_query.proofs.answers.phrase.read_starts.Given as goal

-- the starts of the terms so far are put down
abbrev pub invariant-loop-place : goal.invariant-loop-place
invariant-loop-place l = StartsBefore l.lists l.offsets l.starts l.place
