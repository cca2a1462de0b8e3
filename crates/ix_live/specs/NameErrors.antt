-- The errors of giving names: their numbers, their names, as they are printed, and when each one comes.
use Rattle.std.specs.Prelude.{◌≡◌, ℕ, ◌<◌, ◌≤◌, List, ◌++◌, Some, All, slice_get, take, codes, decimal}
use Rattle.ix_live.specs.declared.name_error.NameError.{NameError}
use Rattle.ix_live.specs.declared.name_error.NameError.TheVariants.{Number, Memory}

-- an error's place in the list of these errors, from 1
abbrev pub name_error_number : NameError → ℕ
name_error_number (Number place) = 1
name_error_number Memory = 2

-- the name of an error, with its place in brackets
abbrev pub name_error_name : NameError → List ℕ
name_error_name (Number place) = codes "Number(" ++ (decimal place ++ codes ")")
name_error_name Memory = codes "Memory"

-- the number at that place is the first that is not below the count of the documents; or all are below it, and the call was
-- out of memory
abbrev pub RefusesNames : ℕ → List ℕ → NameError → Type 0
RefusesNames count numbers (Number place) = (number : ℕ) × (slice_get numbers place ≡ Some number) × (count ≤ number) × All (λ earlier. earlier < count) (take place numbers)
RefusesNames count numbers Memory = All (λ number. number < count) numbers
