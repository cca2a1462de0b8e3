use Rattle.std.proofs.Common.{map, option_map}
use Rattle.std.specs.Prelude.{string_bytes}
use Rattle.ix_query.proofs.PositionLemmas.{NoneMatches}
use Rattle.ix_query.proofs.satisfaction.has_match.Given as goal

-- no earlier token matches
abbrev pub invariant-loop-entry : goal.invariant-loop-entry
invariant-loop-entry l = NoneMatches (map (option_map string_bytes) l.tokens) l.pattern l.entry-index
