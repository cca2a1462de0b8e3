use Rattle.std.proofs.Common.{◌≡◌}
use Rattle.ix_query.specs.Streams.{from_number}
use Rattle.ix_query.proofs.answers.start.pass.Given as goal

-- what was passed is below the number
abbrev pub invariant-loop-position : goal.invariant-loop-position
invariant-loop-position l = record {
  can : (goal.iterator-loop-position).can_next l.rest;
  ends : (goal.iterator-loop-position).is_finite l.rest;
  passed : from_number l.low l.initial.rest ≡ from_number l.low l.rest;
}
