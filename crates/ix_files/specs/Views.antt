-- What is known of files before and after a call, and at each moment between.
use Rattle.std.specs.Prelude.{◌≡◌, ◌≤◌, ◌<◌, ◌⊎◌, List, ℕ, Result, IsErrOf}
use Rattle.ix_files.specs.Slots.{Place, Slots, IsSame, Stops}
use Rattle.ix_files.specs.declared.file_error.FileError.{FileError}
use Rattle.ix_files.specs.declared.file_error.FileError.TheVariants.{Failed}

-- What is known of files: whether each answer so far was as the files were, which no program can find out; where a path
-- leads, and which folder; what is at each name; a clock, and what a stop since a moment might have left; and how often the system has failed.
pub record View : Type 1 where
  pub honest : Type 0
  pub place : List ℕ → Place
  pub folder : List ℕ → List ℕ
  pub slots : Slots
  pub moment : ℕ
  pub left_since : ℕ → Slots → Type 0
  pub faults : ℕ

-- A call did this step or nothing, and a stop during it leaves what a stop could leave before, or after the step.
pub record Passes (step : Slots → Slots → Type 0) (old new : View) : Type 0 where
  pub places : (path : List ℕ) → new.place path ≡ old.place path
  pub folders : (path : List ℕ) → new.folder path ≡ old.folder path
  pub later : old.moment ≤ new.moment
  pub counted : old.faults ≤ new.faults
  pub within : IsSame old.slots new.slots ⊎ step old.slots new.slots
  pub nothing_else : (t : ℕ) (left : Slots) → t ≤ old.moment → new.left_since t left
      → old.left_since t left ⊎ ((mid : Slots) × step old.slots mid × Stops mid left)
  pub keeps : (t : ℕ) (left : Slots) → t ≤ old.moment → old.left_since t left → new.left_since t left

-- So a call passes, if all answers were as the files were.
pub record Calls (step : Slots → Slots → Type 0) (old new : View) : Type 0 where
  pub honest : new.honest → old.honest
  pub passes : new.honest → Passes step old new

-- What is known before is known afterwards: where paths lead, and that time and faults do not go back.
pub record GoesOn (old new : View) : Type 0 where
  pub honest : new.honest → old.honest
  pub places : new.honest → (path : List ℕ) → new.place path ≡ old.place path
  pub folders : new.honest → (path : List ℕ) → new.folder path ≡ old.folder path
  pub later : new.honest → old.moment ≤ new.moment
  pub counted : new.honest → old.faults ≤ new.faults

-- A stop at any moment since old leaves files of which P holds.
pub record LeavesOnly (P : Slots → Type 0) (old new : View) : Type 0 where
  pub later : old.moment ≤ new.moment
  pub each : (left : Slots) → new.left_since old.moment left → P left
  -- for a run that began earlier
  pub before : (t : ℕ) (left : Slots) → t ≤ old.moment → new.left_since t left → old.left_since t left ⊎ P left

-- `Failed` is returned only if the system has failed.
abbrev pub HasCause : {T : Type 0} → View → View → Result T FileError → Type 0
HasCause old new result = new.honest → IsErrOf result Failed → old.faults < new.faults
