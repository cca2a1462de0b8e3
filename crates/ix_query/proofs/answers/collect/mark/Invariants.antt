use Rattle.std.proofs.Common.{◌≡◌, ◌-◌, ◌^◌}
use Rattle.ix_query.specs.Marked.{IsMarked}
use Rattle.ix_query.proofs.StreamLemmas.{IsMarkedUp}
use Rattle.ix_query.proofs.answers.collect.mark.Given as goal

-- the numbers so far are marked
abbrev pub invariant-loop-number : goal.invariant-loop-number
invariant-loop-number g l = record {
  up : IsMarkedUp (g.N.Numbers.has l.fn.list) (g.N.Numbers.has l.list) (IsMarked l.fn.marks) (IsMarked l.marks) l.fn.marks.count l.low;
  count : l.marks.count ≡ l.fn.marks.count;
}

abbrev pub decreases-loop-number : goal.decreases-loop-number
decreases-loop-number g l = 2 ^ 32 - l.low
