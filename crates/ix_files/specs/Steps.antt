-- What a call does to the files: each step says what is new at which name, and that the others stay.
use Rattle.std.specs.Prelude.{◌≡◌, ◌≢◌, List, ℕ, Option, Some}
use Rattle.ix_files.specs.Slots.{Place, Slots, Growing, Kept, Nothing, IsAmong, IsSame, IsSameBut, at_rest, entered}

-- A new file is there, which is being written.
pub record Creates (place : Place) (old new : Slots) : Type 0 where
  pub free : (old place).now ≡ Nothing
  pub there : new place ≡ entered (old place) Growing
  pub elsewhere : IsSameBut place old new

-- The bytes that a writer holds are on the disk; the file's name need not be.
pub record Syncs (place : Place) (contents : Option (List ℕ)) (old new : Slots) : Type 0 where
  pub bytes : List ℕ
  pub known : contents ≡ Some bytes
  pub there : new place ≡ record { now = Kept bytes; before = (old place).before }
  pub elsewhere : IsSameBut place old new

-- The file has another name, in place of what was there.
pub record Renames (from to : Place) (old new : Slots) : Type 0 where
  pub there : new to ≡ entered (old to) (old from).now
  pub gone : new from ≡ entered (old from) Nothing
  pub elsewhere : (other : Place) → other ≢ from → other ≢ to → new other ≡ old other

-- There is no file any more.
pub record Removes (place : Place) (old new : Slots) : Type 0 where
  pub there : new place ≡ entered (old place) Nothing
  pub elsewhere : IsSameBut place old new

-- All names of the folder are on the disk: nothing that was there before can come back.
pub record Settles (folder : List ℕ) (old new : Slots) : Type 0 where
  pub inside : (place : Place) → place.folder ≡ folder → new place ≡ at_rest (old place).now
  pub outside : (place : Place) → place.folder ≢ folder → new place ≡ old place

-- What is at the name is written over, if it is a file; a device or a pipe has none.
pub record Overwrites (place : Place) (old new : Slots) : Type 0 where
  pub none : (old place).now ≡ Nothing → new place ≡ old place
  pub file : (old place).now ≢ Nothing → new place ≡ entered (old place) Growing
  pub elsewhere : IsSameBut place old new

-- Nothing is known of what is at these names; all others stay.
pub record Shares (names : List Place) (old new : Slots) : Type 0 where
  pub elsewhere : (place : Place) → ¬ (IsAmong names place) → new place ≡ old place

-- nothing
abbrev pub Stays : Slots → Slots → Type 0
Stays old new = IsSame old new
