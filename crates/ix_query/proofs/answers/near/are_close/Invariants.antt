use Rattle.std.proofs.Common.{◌+◌, length}
use Rattle.ix_query.specs.Meetings.{AreClose}
use Rattle.ix_query.proofs.ClosePositions.{Closing}
use Rattle.ix_query.proofs.answers.near.are_close.Given as goal

-- what was dropped is close to none
abbrev pub invariant-loop-first : goal.invariant-loop-first
invariant-loop-first l = Closing l.one l.other l.first l.second l.distance (AreClose l.fn.first l.fn.second l.distance)

abbrev pub decreases-loop-first : goal.decreases-loop-first
decreases-loop-first l = length l.first + length l.second
