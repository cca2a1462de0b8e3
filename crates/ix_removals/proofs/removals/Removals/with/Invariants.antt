use Rattle.std.proofs.Common.{◌↔◌, ◌⊎◌, ℕ, ◌<◌, List, Contains, map, take}
use Rattle.ix_removals.specs.RemovalsText.{IsRemoved}
use Rattle.ix_removals.proofs.removals.Removals.with.Given as goal

abbrev pub invariant-loop-name : goal.invariant-loop-name
invariant-loop-name l = (name : List ℕ) (number : ℕ) → IsRemoved l.removals name number ↔ (IsRemoved l.self name number ⊎ (Contains (map (λ one. one.now) (take l.name-index l.names)) name × (number < l.below)))
