use Rattle.std.proofs.Common.{length, ◌-◌, ◌≡◌, ◌≤◌, drop}
use Rattle.ix_query.specs.Streams.{from_number}
use Rattle.ix_query.proofs.answers.doc_list.place_from.Given as goal

-- the numbers that were passed are below the one named
abbrev pub invariant-loop-place : goal.invariant-loop-place
invariant-loop-place l = record {
  within : l.place ≤ length l.numbers;
  passed : from_number l.low (drop l.place l.numbers) ≡ from_number l.low (drop l.start l.numbers);
}

abbrev pub decreases-loop-place : goal.decreases-loop-place
decreases-loop-place l = length l.numbers - l.place
