use Rattle.std.proofs.Common.{◌↔◌, ◌⊎◌, ℕ, List, Some, Contains, take}
use Rattle.ix_extract.specs.Parts.{IsText}
use Rattle.ix_extract.proofs.query_matcher.collect_words.Given as goal

abbrev pub invariant-loop-part : goal.invariant-loop-part
invariant-loop-part l = (term : List ℕ) → IsText l.words.items term ↔ (IsText l.initial.words.items term ⊎ Contains (take l.part-index l.parts) (Some term))
