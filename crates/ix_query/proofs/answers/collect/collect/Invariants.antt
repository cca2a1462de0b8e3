use Rattle.std.proofs.Common.{◌-◌, ◌^◌}
use Rattle.ix_query.proofs.StreamLemmas.{IsCollected}
use Rattle.ix_query.proofs.answers.collect.collect.Given as goal

-- the numbers so far, and those that are left
abbrev pub invariant-loop-number : goal.invariant-loop-number
invariant-loop-number g l = IsCollected (g.N.Numbers.has l.fn.list) (g.N.Numbers.has l.list) l.found.items l.low

abbrev pub decreases-loop-number : goal.decreases-loop-number
decreases-loop-number g l = 2 ^ 32 - l.low
