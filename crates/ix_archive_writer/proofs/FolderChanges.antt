-- Calls change only names in one folder.
use Rattle.std.proofs.Common.{◌≡◌, ◌∙◌, List, ℕ, ap}
use Rattle.ix_files.specs.Changes.{ChangesOnly}
use Rattle.ix_files.specs.Slots.{Place, Slots, Stops}
use Rattle.ix_files.specs.Views.{View}
use Rattle.ix_files.proofs.Drafting.{unchanged}
use Rattle.ix_folder.specs.FolderNames.{IsStray}
use Rattle.ix_folder.proofs.Laws.{narrowed, widened}

-- nothing changes
pub none_in : (folder : List ℕ) (old : View) → ((left : Slots) → old.left_since old.moment left → Stops old.slots left) → ChangesOnly (λ place. place.folder ≡ folder) old old
none_in folder old only = unchanged (λ place. place.folder ≡ folder) old only

-- calls that change no file
pub no_file_in : (folder : List ℕ) {old new : View} → ChangesOnly (λ place. ⊥) old new → ChangesOnly (λ place. place.folder ≡ folder) old new
no_file_in folder = widened (λ place. ⊥) (λ place. place.folder ≡ folder) (λ place none. absurd none)

-- one name of the folder
pub one_in : (folder : List ℕ) (at : Place) {old new : View} → at.folder ≡ folder → ChangesOnly (λ place. place ≡ at) old new → ChangesOnly (λ place. place.folder ≡ folder) old new
one_in folder at inside = widened (λ place. place ≡ at) (λ place. place.folder ≡ folder) (λ place is. ap (λ (p : Place). p.folder) is ∙ inside)

-- names that no manifest names
pub strays_in : (folder : List ℕ) (kept : List (List ℕ)) {old new : View} → ChangesOnly (IsStray folder kept) old new → ChangesOnly (λ place. place.folder ≡ folder) old new
strays_in folder kept = widened (IsStray folder kept) (λ place. place.folder ≡ folder) (λ place stray. stray.inside)

-- names of a folder that is this one
pub same_folder : (one folder : List ℕ) {old new : View} → (new.honest → one ≡ folder) → ChangesOnly (λ place. place.folder ≡ one) old new → ChangesOnly (λ place. place.folder ≡ folder) old new
same_folder one folder same changes = record {
  others = λ honest place off. changes.others honest place (λ inside. off (inside ∙ same honest));
  any_moment = λ honest. narrowed (λ left is_old place off. is_old place (λ inside. off (inside ∙ same honest))) (changes.any_moment honest);
}
