use Rattle.std.proofs.Common.{ℕ, ◌<◌, map, option_map}
use Rattle.std.specs.Prelude.{string_bytes}
use Rattle.ix_query.specs.Satisfaction.{HasPhraseAt}
use Rattle.ix_query.proofs.satisfaction.has_phrase.Given as goal

-- the phrase stands at no earlier position
abbrev pub invariant-loop-start : goal.invariant-loop-start
invariant-loop-start l = (k : ℕ) → k < l.start → HasPhraseAt (map (option_map string_bytes) l.tokens) k l.parts → ⊥
