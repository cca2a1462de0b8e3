-- A new file beside the one that it will replace, and what a stop leaves of the one.
use Rattle.std.specs.Prelude.{◌≡◌, ◌≢◌, ◌≤◌, ◌<◌, ◌+◌, ◌⊎◌, ℕ, List, ◌++◌, codes, decimal, length}
use Rattle.std.specs.Io.{StartsWith}
use Rattle.ix_files.specs.Changes.{ChangesOnly, StopsAt}
use Rattle.ix_files.specs.Locations.{place_of}
use Rattle.ix_files.specs.Slots.{Kept, Nothing, Place, Slots, at_rest}
use Rattle.ix_files.specs.Views.{View}
use Rattle.ix_files.specs.declared.draft.Draft.{Draft}

-- The name of a draft, by its number, of a file of this name. It has only a beginning of the file's name if it would be too long.
pub record IsDraftName (name draft : List ℕ) : Type 0 where
  pub number : ℕ
  pub some : 0 < number
  pub front : List ℕ
  pub begins : StartsWith name front
  pub whole : length name + length (decimal number) ≤ 250 → front ≡ name
  pub spelled : draft ≡ codes "." ++ front ++ codes ".ix-" ++ decimal number
  pub short : length draft ≤ 255

-- It is one of the names that drafts of this file may have.
pub record IsDraftPlace (target place : Place) : Type 0 where
  pub folder : place.folder ≡ target.folder
  pub name : IsDraftName target.name place.name
  pub another : place ≢ target

-- One of them is there.
pub record HasDraft (target : Place) (view : View) : Type 0 where
  pub place : Place
  pub named : IsDraftPlace target place
  pub there : (view.slots place).now ≢ Nothing

-- what the draft will replace
abbrev pub target_of : {W : Type 0} → Draft W → Place
target_of draft = place_of draft.target

-- its own name
abbrev pub own_of : {W : Type 0} → Draft W → Place
own_of draft = place_of draft.own

-- A stop left at each name but these what it could leave there before, or the new text whole at the target.
abbrev pub IsOldOrNew : (Place → Type 0) → Place → List ℕ → Slots → Slots → Type 0
IsOldOrNew Excepted target text old left = (place : Place) → ¬ (Excepted place)
    → StopsAt (old place) (left place).now ⊎ ((place ≡ target) × ((left place).now ≡ Kept text))

-- Drafts of this file come and go; all other names stay.
abbrev pub ChangesDrafts : Place → View → View → Type 0
ChangesDrafts target = ChangesOnly (IsDraftPlace target)

-- What the draft was to replace is the draft's text, on the disk, and no crash brings back what was there; the draft's own name is
-- free.
pub record IsFinished (target own : Place) (text : List ℕ) (new : View) : Type 0 where
  pub there : new.slots target ≡ at_rest (Kept text)
  pub gone : (new.slots own).now ≡ Nothing

-- The draft did not surely take its place: there is what was there, or, if the folder could not be synced, the draft's text. Its
-- own name is free, or the system failed once more.
pub record IsUnfinished (target own : Place) (text : List ℕ) (old new : View) : Type 0 where
  pub there : (new.slots target ≡ old.slots target) ⊎ ((new.slots target).now ≡ Kept text)
  pub gone : ((new.slots own).now ≡ Nothing) ⊎ (old.faults + 2 ≤ new.faults)
