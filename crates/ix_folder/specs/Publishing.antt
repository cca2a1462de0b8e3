-- The two steps by which a manifest takes the place of the one before.
use Rattle.std.specs.Prelude.{◌≡◌, ◌≢◌, ◌⊎◌, ℕ, List}
use Rattle.ix_files.specs.Slots.{Kept, Place, Slots, at_rest}

-- The new manifest is on the disk, and so are all names in its folder.
pub record IsPrepared (draft : Place) (text : List ℕ) (old new : Slots) : Type 0 where
  pub written : (new draft).now ≡ Kept text
  pub names : (place : Place) → place.folder ≡ draft.folder → place ≢ draft → new place ≡ at_rest (old place).now

-- The names but one are as they were, or are on the disk.
abbrev pub Rests : Place → Slots → Slots → Type 0
Rests draft old new = (place : Place) → place ≢ draft → (new place ≡ old place) ⊎ (new place ≡ at_rest (old place).now)

-- The new manifest is in the place of the one before, and the names in its folder are on the disk.
pub record IsReplaced (draft target : Place) (old new : Slots) : Type 0 where
  pub there : new target ≡ at_rest (old draft).now
  pub names : (place : Place) → place.folder ≡ target.folder → place ≢ draft → place ≢ target → new place ≡ at_rest (old place).now
