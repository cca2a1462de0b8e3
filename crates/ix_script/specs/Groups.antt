-- Groups of a script: the steps up to each publish, or to the end.
use Rattle.std.specs.Prelude.{◌≡◌, Bool, true, false, List, ◌∷◌, ◌++◌, All, Option, None, Some}
use Rattle.ix_script.specs.Steps.{Add, Ask, Publish, Remove, Step}

-- the step publishes
abbrev pub is_publish : Step → Bool
is_publish (Add path) = false
is_publish Publish = true
is_publish (Ask query tree) = false
is_publish (Remove number) = false

-- no step publishes
abbrev pub IsGroup : List Step → Type 0
IsGroup = All (λ step. is_publish step ≡ false)

-- the steps are a group and what is behind its publish, or a group alone
abbrev pub IsCutAtPublish : List Step → List Step → Option (List Step) → Type 0
IsCutAtPublish steps group None = (steps ≡ group) × IsGroup group
IsCutAtPublish steps group (Some rest) = (steps ≡ group ++ Publish ∷ rest) × IsGroup group
