-- What is known of files in memory.
use Rattle.std.specs.Prelude.{◌≡◌, ◌≤◌, ◌<◌, ◌-◌, ◌^◌, List, [], ◌∷◌, ℕ, bytes_eq, codes, if◌then◌else◌, length, Option, IfSome, IsSome, Result, OnErr, OnOk}
use Rattle.ix_files.specs.MemoryChanges.{StopsSince, after_change, after_changes}
use Rattle.ix_files.specs.Slots.{Place, Slots}
use Rattle.ix_files.specs.Views.{View}
use Rattle.ix_files.specs.declared.memory_changes.Change.{Change}
use Rattle.ix_files.specs.declared.memory_files.MemoryFiles.{MemoryFiles}

-- all files are in one folder: a path is a name in it
abbrev pub place_at : List ℕ → Place
place_at path = record { folder = []; name = path }

-- the folder to which a path of one leads: `.` is that of all files
abbrev pub folder_of : List ℕ → List ℕ
folder_of path = if bytes_eq path (codes ".") then [] else path

-- They are honest until the count of faults is full, which it never is.
abbrev pub view_after : List Change → ℕ → View
view_after changes faults = record {
  honest = faults < 2 ^ 64 - 1;
  place = place_at;
  folder = folder_of;
  slots = after_changes changes;
  moment = length changes;
  left_since = StopsSince changes;
  faults = faults;
}

abbrev pub memory_view : MemoryFiles → View
memory_view files = view_after files.changes.items files.faults

-- Nothing was done, and a fault is counted.
pub record IsFault (old new : MemoryFiles) : Type 0 where
  pub changes : new.changes.items ≡ old.changes.items
  pub later : old.faults ≤ new.faults
  pub counted : new.faults < 2 ^ 64 - 1 → old.faults < new.faults

-- The change, if there is one, is this step.
abbrev pub IsStep : (Slots → Slots → Type 0) → MemoryFiles → Option Change → Type 0
IsStep step files change = (memory_view files).honest
    → IfSome change (λ made. step (after_changes files.changes.items) (after_change made (after_changes files.changes.items)))

-- There is a change and it was made, or the call failed.
pub record IsMade {T E : Type 0} (change : Option Change) (result : Result T E) (old new : MemoryFiles) : Type 0 where
  pub some : OnOk result (IsSome change)
  pub made : OnOk result (IfSome change (λ made. new.changes.items ≡ made ∷ old.changes.items))
  pub as_often : OnOk result (new.faults ≡ old.faults)
  pub failed : OnErr result (IsFault old new)
