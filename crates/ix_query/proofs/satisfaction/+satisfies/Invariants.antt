use Rattle.std.proofs.Common.{map, option_map}
use Rattle.std.specs.Prelude.{string_bytes}
use Rattle.ix_query.specs.Satisfaction.{Satisfies}
use Rattle.ix_query_text.proofs.EachBefore.{EachBefore}
use Rattle.ix_query.proofs.satisfaction.+satisfies.Given as goal

-- each earlier part is satisfied
abbrev pub invariant-satisfies_each-loop-part : goal.invariant-satisfies_each-loop-part
invariant-satisfies_each-loop-part l = EachBefore (Satisfies (map (option_map string_bytes) l.tokens)) l.parts l.part-index

-- no earlier part is satisfied
abbrev pub invariant-satisfies_one-loop-part : goal.invariant-satisfies_one-loop-part
invariant-satisfies_one-loop-part l = EachBefore (λ part. ¬ (Satisfies (map (option_map string_bytes) l.tokens) part)) l.parts l.part-index
