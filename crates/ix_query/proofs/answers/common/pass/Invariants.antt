use Rattle.ix_query.proofs.PassLemmas.{PassedBefore}
use Rattle.ix_query.proofs.answers.common.pass.Given as goal

-- the streams so far have the number
abbrev pub invariant-loop-list : goal.invariant-loop-list
invariant-loop-list g l = PassedBefore g.N.Numbers.has l.initial.lists l.lists l.number l.list-index
