-- What calls change, and what a stop leaves of the rest.
use Rattle.std.specs.Prelude.{◌≡◌, ◌⊎◌, List}
use Rattle.ix_files.specs.Slots.{Entry, IsAmong, MayLeave, Nothing, Place, Slot, Slots}
use Rattle.ix_files.specs.Views.{LeavesOnly, View}

-- A stop of the program or of the machine may leave this at a name.
abbrev pub StopsAt : Slot → Entry → Type 0
StopsAt slot entry = (entry ≡ slot.now) ⊎ MayLeave slot entry

-- A stop left at each name but these what it could leave there before.
abbrev pub IsOld : (Place → Type 0) → Slots → Slots → Type 0
IsOld Excepted old left = (place : Place) → ¬ (Excepted place) → StopsAt (old place) (left place).now

-- All names but these stay, and a stop at any moment leaves at them what it could leave before.
pub record ChangesOnly (Excepted : Place → Type 0) (old new : View) : Type 0 where
  pub others : new.honest → (place : Place) → ¬ (Excepted place) → new.slots place ≡ old.slots place
  pub any_moment : new.honest → LeavesOnly (IsOld Excepted old.slots) old new

-- There is no file of these names.
abbrev pub AreGone : List Place → Slots → Type 0
AreGone names slots = (place : Place) → IsAmong names place → (slots place).now ≡ Nothing
