-- What changes make of files in memory. The latest change is the first in a list of them.
use Rattle.std.specs.Prelude.{◌≤◌, ◌⊎◌, List, [], ◌∷◌, ℕ, Bool, ◌&&◌, Option, Some, None, bytes_eq, length, string_bytes, if◌then◌else◌}
use Rattle.ix_files.specs.Locations.{place_of}
use Rattle.ix_files.specs.Slots.{Entry, Growing, Kept, Nothing, Place, Slot, Slots, Stops, at_rest, entered}
use Rattle.ix_files.specs.SystemViews.{no_files}
use Rattle.ix_files.specs.declared.memory_changes.Change.{Change}
use Rattle.ix_files.specs.declared.memory_changes.Change.TheVariants.{Created, Synced, Renamed, Removed, Settled}
use Rattle.ix_files.specs.declared.memory_changes.Found.{Found}
use Rattle.ix_files.specs.declared.memory_changes.Found.TheVariants as found

-- whether they are one name
abbrev pub is_place : Place → Place → Bool
is_place one other = bytes_eq one.folder other.folder && bytes_eq one.name other.name

-- this is at the name, and what was there is at the others
abbrev pub with_slot : Place → Slot → Slots → Slots
with_slot place slot slots other = if is_place place other then slot else slots other

-- what is at each name after a change
abbrev pub after_change : Change → Slots → Slots
after_change (Created at) slots = with_slot (place_of at) (entered (slots (place_of at)) Growing) slots
after_change (Synced at bytes) slots = with_slot (place_of at)
    (record { now = Kept bytes.items; before = (slots (place_of at)).before }) slots
after_change (Renamed from to bytes) slots = with_slot (place_of from) (entered (slots (place_of from)) Nothing)
    (with_slot (place_of to) (entered (slots (place_of to)) (Kept bytes.items)) slots)
after_change (Removed at) slots = with_slot (place_of at) (entered (slots (place_of at)) Nothing) slots
after_change (Settled folder) slots = λ place.
    if bytes_eq (string_bytes folder) place.folder then at_rest (slots place).now else slots place

-- what is at each name after these changes, if there were no files at first
abbrev pub after_changes : List Change → Slots
after_changes [] = no_files
after_changes (change ∷ earlier) = after_change change (after_changes earlier)

-- A stop since there were so many changes, or at that moment, leaves this.
abbrev pub StopsSince : List Change → ℕ → Slots → Type 0
StopsSince [] since left = Stops no_files left
StopsSince (change ∷ earlier) since left = Stops (after_changes (change ∷ earlier)) left
    ⊎ ((since ≤ length earlier) × StopsSince earlier since left)

abbrev pub entry_of : Found → Entry
entry_of found.Nothing = Nothing
entry_of found.Growing = Growing
entry_of (found.Kept bytes) = Kept bytes.now

-- what a change left at a name, or what was there
abbrev pub entry_or : Option Found → Entry → Entry
entry_or (Some found) entry = entry_of found
entry_or None entry = entry
