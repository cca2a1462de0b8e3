-- What is at each name of each folder, and what a stop of the program or of the machine leaves there.
use Rattle.std.specs.Prelude.{◌≡◌, ◌≢◌, ◌⊎◌, List, ℕ, [], ◌∷◌, Option, Some, None, slice_get}

-- A name in a folder. A path leads to one, through links and dots.
pub record Place : Type 0 where
  pub folder : List ℕ
  pub name : List ℕ

-- It is one of these names.
abbrev pub IsAmong : List Place → Place → Type 0
IsAmong names place = (index : ℕ) × (slice_get names index ≡ Some place)

-- What is at a name: no file, one that is being written, one with these bytes, and one whose bytes are on the disk.
pub data Entry : Type 0 where
  Nothing : Entry
  Growing : Entry
  Whole : List ℕ → Entry
  Kept : List ℕ → Entry

-- What is at a name, and what was there since the folder was last synced: a crash may bring back any of these.
pub record Slot : Type 0 where
  pub now : Entry
  pub before : List Entry

abbrev pub Slots : Type 0
Slots = Place → Slot

-- the bytes of a file that nobody writes
abbrev pub bytes_of : Entry → Option (List ℕ)
bytes_of Nothing = None
bytes_of Growing = None
bytes_of (Whole bytes) = Some bytes
bytes_of (Kept bytes) = Some bytes

-- What a crash makes of a file: bytes that are on the disk stay, and others come back as any.
pub data ComesBackAs : Entry → Entry → Type 0 where
  nothing : ComesBackAs Nothing Nothing
  growing : (bytes : List ℕ) → ComesBackAs Growing (Kept bytes)
  whole : {old : List ℕ} (bytes : List ℕ) → ComesBackAs (Whole old) (Kept bytes)
  kept : {bytes : List ℕ} → ComesBackAs (Kept bytes) (Kept bytes)

-- It is one of these.
pub data IsOneOf (entry : Entry) : List Entry → Type 0 where
  first : {entries : List Entry} → IsOneOf entry (entry ∷ entries)
  later : {other : Entry} {entries : List Entry} → IsOneOf entry entries → IsOneOf entry (other ∷ entries)

-- a name after a crash: nothing else can come back there
abbrev pub at_rest : Entry → Slot
at_rest entry = record { now = entry; before = [] }

-- What a crash may leave at a name.
pub record MayLeave (slot : Slot) (left : Entry) : Type 0 where
  pub entry : Entry
  pub was : IsOneOf entry (slot.now ∷ slot.before)
  pub comes_back : ComesBackAs entry left

-- A crash of the machine leaves something at each name, whatever it leaves at the others.
abbrev pub Crashes : Slots → Slots → Type 0
Crashes slots left = (place : Place) → (entry : Entry) × MayLeave (slots place) entry × (left place ≡ at_rest entry)

-- the same at each name
abbrev pub IsSame : Slots → Slots → Type 0
IsSame old new = (place : Place) → new place ≡ old place

-- The program ends, and the folders stay as they are, or the machine crashes.
abbrev pub Stops : Slots → Slots → Type 0
Stops slots left = IsSame slots left ⊎ Crashes slots left

-- the same but at this name
abbrev pub IsSameBut : Place → Slots → Slots → Type 0
IsSameBut place old new = (other : Place) → other ≢ place → new other ≡ old other

-- this is at the name from now on, and a crash may bring back what was there
abbrev pub entered : Slot → Entry → Slot
entered slot entry = record { now = entry; before = slot.now ∷ slot.before }
