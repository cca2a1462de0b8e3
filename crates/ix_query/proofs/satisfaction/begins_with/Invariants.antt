use Rattle.std.proofs.Common.{map, option_map}
use Rattle.std.specs.Prelude.{string_bytes}
use Rattle.ix_query.proofs.PositionLemmas.{BeginsBefore}
use Rattle.ix_query.proofs.satisfaction.begins_with.Given as goal

-- the parts so far stand at the front
abbrev pub invariant-loop-place : goal.invariant-loop-place
invariant-loop-place l = BeginsBefore (map (option_map string_bytes) l.tokens) l.parts l.place
