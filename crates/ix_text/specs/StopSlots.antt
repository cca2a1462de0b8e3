-- The slots of a stop list: what a text's length and some of its bytes tell of where it may stand.
use Rattle.std.specs.Prelude.{◌≡◌, ℕ, ◌+◌, ◌-◌, ◌*◌, ◌%◌, ◌==◌, Bool, true, false, List, length, slice_get, slice_index, slice_index_or, Some}
use Rattle.ix_text.specs.declared.stop_slots.Slot.{Slot}
use Rattle.ix_text.specs.declared.stop_slots.Slot.TheVariants.{Empty, One, Several}
use Rattle.ix_text.specs.StopSets.{IsStopSet}

-- the slot of a text
unfoldable pub slot_number : List ℕ → ℕ
slot_number text = (length text % 32 * 175 + slice_index text 0 * 82 + slice_index text 2 * 153 + slice_index text (length text - 2) * 36 + slice_index text (length text - 1) * 6) % 1024

-- what is known of a slot admits the term at that place
abbrev pub admits : Slot → ℕ → Bool
admits Empty place = false
admits (One other) place = other == place
admits Several place = true

-- the slot of each term admits it
abbrev pub AreSlotsOf : List Slot → List (List ℕ) → Type 0
AreSlotsOf slots terms = (place : ℕ) (term : List ℕ) → slice_get terms place ≡ Some term → admits (slice_index_or slots (slot_number term) Empty) place ≡ true

-- a stop set with its slots
pub record IsSlotted (terms : List (List ℕ)) (slots : List Slot) : Type 0 where
  pub stop_set : IsStopSet terms
  pub slotted : AreSlotsOf slots terms
