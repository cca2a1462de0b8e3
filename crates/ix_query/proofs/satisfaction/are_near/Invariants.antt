use Rattle.std.proofs.Common.{map, option_map}
use Rattle.std.specs.Prelude.{string_bytes}
use Rattle.ix_query.proofs.PositionLemmas.{Searched}
use Rattle.ix_query.proofs.satisfaction.are_near.Given as goal

-- the last positions of both terms so far, no two of which are near
abbrev pub invariant-loop-position : goal.invariant-loop-position
invariant-loop-position l = Searched (map (option_map string_bytes) l.tokens) l.first l.second l.limit l.position l.last_first l.last_second
