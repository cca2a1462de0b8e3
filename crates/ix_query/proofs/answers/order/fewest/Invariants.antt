use Rattle.std.proofs.Common.{◌<◌, length}
use Rattle.ix_query.proofs.answers.order.fewest.Given as goal

-- the stream that leads so far is one of them
abbrev pub invariant-loop-place : goal.invariant-loop-place
invariant-loop-place g l = l.lead < length l.lists
