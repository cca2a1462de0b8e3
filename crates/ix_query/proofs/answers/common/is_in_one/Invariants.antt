use Rattle.ix_query.proofs.PassLemmas.{LackedBefore}
use Rattle.ix_query.proofs.answers.common.is_in_one.Given as goal

-- the streams so far lack the number
abbrev pub invariant-loop-list : goal.invariant-loop-list
invariant-loop-list g l = LackedBefore g.N.Numbers.has l.initial.lists l.lists l.number l.list-index
