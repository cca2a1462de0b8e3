-- Where the output of a command goes, and what it leaves of the files.
use Rattle.std.specs.Prelude.{◌≡◌, ◌≢◌, ◌⊎◌, List, ℕ, Option, None, Some, ⊤}
use Rattle.ix_files.specs.Drafts.{IsDraftPlace}
use Rattle.ix_files.specs.Locations.{place_of}
use Rattle.ix_files.specs.Slots.{Growing, Kept, Nothing, Place, at_rest}
use Rattle.ix_files.specs.Views.{View}
use Rattle.ix_files.specs.declared.location.Location.{Location}
use Rattle.ix_files.specs.declared.output.DraftNames.{DraftNames}

-- the path leads to this name, or, if none, to a device or a pipe, which has no file
abbrev pub IsTargetOf : View → List ℕ → Option Location → Type 0
IsTargetOf view path None = (view.slots (view.place path)).now ≡ Nothing
IsTargetOf view path (Some location) = place_of location ≡ view.place path

-- the new file has one of the names that drafts of what it will replace may have
abbrev pub AreReady : Option DraftNames → Type 0
AreReady None = ⊤
AreReady (Some names) = IsDraftPlace (place_of names.target) (place_of names.own)

-- the output was begun for this path: into a device or a pipe, or into a new file beside the one that it will replace
pub record IsDraftOf (view : View) (path : List ℕ) (names : DraftNames) : Type 0 where
  pub target : place_of names.target ≡ view.place path
  pub growing : (view.slots (place_of names.own)).now ≡ Growing

abbrev pub IsBegunFor : View → List ℕ → Option DraftNames → Type 0
IsBegunFor view path None = (view.slots (view.place path)).now ≡ Nothing
IsBegunFor view path (Some names) = IsDraftOf view path names

-- This text went to the path, if all answers were as the files were: into the device or the pipe, or into a file, on the disk.
abbrev pub saved_in : (List ℕ → List ℕ → Type 0) → View → View → List ℕ → List ℕ → Type 0
saved_in sent old new path text = new.honest → sent path text ⊎ (new.slots (old.place path) ≡ at_rest (Kept text))

-- what is at each name stays, but at that to which the path leads, and at those that drafts of it may have
abbrev pub LeavesOthers : List ℕ → View → View → Type 0
LeavesOthers path old new = (place : Place) → place ≢ old.place path → ¬ (IsDraftPlace (old.place path) place)
    → (new.slots place).now ≡ (old.slots place).now

-- what is at the name to which the path leads stays
abbrev pub LeavesTarget : List ℕ → View → View → Type 0
LeavesTarget path old new = (new.slots (old.place path)).now ≡ (old.slots (old.place path)).now

-- this text is at the name to which the path leads; a crash may bring back what was there
abbrev pub now_in : View → View → List ℕ → List ℕ → Type 0
now_in old new path text = (new.slots (old.place path)).now ≡ Kept text
