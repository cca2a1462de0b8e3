-- Which documents a removal by names removes anew, of the first ones of an archive.
use Rattle.std.specs.Prelude.{◌≡◌, ◌↔◌, ◌⊎◌, ◌-◌, ◌<◌, ◌^◌, ℕ, List, Contains, Some, length, slice_get}
use Rattle.std.specs.List.Sorted.{IsStrictlyIncreasing}
use Rattle.ix_text.specs.Collections.{IsName}
use Rattle.ix_removals.specs.RemovalsText.{Removal, IsRemoved}

-- These removals are asked for: of the names that a document can have, whatever its number.
abbrev pub AsksFor : List (List ℕ) → List Removal → Type 0
AsksFor names asked = (name : List ℕ) (number : ℕ) → IsRemoved asked name number ↔ ((Contains names name × IsName name) × (number < 2 ^ 64 - 1))

-- Of these names the documents before this many are removed too.
abbrev pub Removes : List Removal → List (List ℕ) → ℕ → List Removal → Type 0
Removes removed taken total removals =
    (name : List ℕ) (number : ℕ) → IsRemoved removals name number ↔ (IsRemoved removed name number ⊎ (Contains taken name × (number < total)))

-- The document of that number has a name that is asked for, and is not removed yet.
pub record IsTaken (asked removed : List Removal) (names : List (List ℕ)) (number : ℕ) (name : List ℕ) : Type 0 where
  pub numbered : slice_get names number ≡ Some name
  pub wanted : IsRemoved asked name number
  pub there : ¬ (IsRemoved removed name number)

-- Of the documents of these names the taken ones were found: their numbers, ascending, and as many names, which are all of theirs
-- and no others.
pub record AreTaken (asked removed : List Removal) (names taken : List (List ℕ)) : Type 0 where
  pub numbers : List ℕ
  pub ascending : IsStrictlyIncreasing numbers
  pub counted : length taken ≡ length numbers
  pub of_taken : (number : ℕ) → Contains numbers number → (name : List ℕ) × IsTaken asked removed names number name
  pub all_numbers : (number : ℕ) (name : List ℕ) → IsTaken asked removed names number name → Contains numbers number
  pub all_names : (number : ℕ) (name : List ℕ) → slice_get names number ≡ Some name → IsRemoved asked name number → IsRemoved removed name number ⊎ Contains taken name
  pub no_others : (name : List ℕ) → Contains taken name → (number : ℕ) × IsTaken asked removed names number name
