use Rattle.std.proofs.Common.{◌-◌, ◌^◌}
use Rattle.ix_query.proofs.PassLemmas.{Narrowed}
use Rattle.ix_query.proofs.answers.common.common.Given as goal

abbrev pub invariant-loop-number : goal.invariant-loop-number
invariant-loop-number g l = Narrowed g.N.Numbers.has l.initial.first l.first l.initial.others l.others l.low l.least

abbrev pub decreases-loop-number : goal.decreases-loop-number
decreases-loop-number g l = 2 ^ 32 - l.least
