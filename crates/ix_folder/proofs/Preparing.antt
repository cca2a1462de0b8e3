-- What is at each name, and what a stop leaves there, before a new manifest takes its place.
use Rattle.std.proofs.Common.{◌≡◌, ◌≢◌, ◌⊎◌, inl, inr, ⊎_elim, ℕ, List, [], Result, Ok, Err, IfOk, OnOk, ap, subst, ◌∙◌}
use Rattle.ix_files.specs.Changes.{ChangesOnly, StopsAt}
use Rattle.ix_files.specs.Slots.{Entry, Growing, Place, Slot, Slots, Stops, at_rest}
use Rattle.ix_files.specs.Steps.{Creates, Removes, Settles}
use Rattle.ix_files.specs.Views.{Calls, Passes, View}
use Rattle.ix_files.proofs.Finishing.{OldOrNew}
use Rattle.ix_files.proofs.Moments.{Run, called, elsewhere, place_decided, settled, started}
use Rattle.ix_folder.specs.Publishing.{Rests}

-- two folders are one or not
pub folder_decided : (a b : List ℕ) → (a ≡ b) ⊎ (a ≢ b)
folder_decided a b = ⊎_elim
    (λ same. inl (ap (λ (place : Place). place.folder) same))
    (λ other. inr (λ same. other (ap (λ (folder : List ℕ). record { folder = folder; name = [] }) same)))
    (place_decided (record { folder = a; name = [] }) (record { folder = b; name = [] }))

-- at each name but these is what could be left there
abbrev pub OldBut : (Place → Type 0) → Slots → Place → Entry → Type 0
OldBut Excepted old place entry = ¬ (Excepted place) → StopsAt (old place) entry

pub run_of : (Excepted : Place → Type 0) (old new : View) → ChangesOnly Excepted old new → new.honest → Run (OldBut Excepted old.slots) old new
run_of Excepted old new changes honest = record {
  moments = changes.any_moment honest;
  now = λ place entry stop other. subst (λ (slot : Slot). StopsAt slot entry) (changes.others honest place other) stop;
}

module _ {Q : Place → Entry → Type 0} {old : View} where
  pub then_settled : {folder : List ℕ} {mid new : View} → Run Q old mid → Passes (Settles folder) mid new → Run Q old new
  then_settled {folder = folder} {mid} run passes = called run passes (λ slots did. settled folder mid.slots slots run.now did)

pub then_removed : {own : Place} {old mid new : View} → Run (OldBut (λ place. place ≡ own) old.slots) old mid → Passes (Removes own) mid new
    → Run (OldBut (λ place. place ≡ own) old.slots) old new
then_removed {mid = mid} run passes = called run passes (λ slots did. elsewhere mid.slots slots run.now did.elsewhere)

-- before the first call
pub begun : (old : View) → ((left : Slots) → old.left_since old.moment left → Stops old.slots left) → Run (λ place entry. StopsAt (old.slots place) entry) old old
begun old only = started old (λ place entry stop. stop) only

-- the names of a folder are put on the disk after other names changed
pub settled_rests : (draft : Place) (folder : List ℕ) {old mid new : View} → ChangesOnly (λ place. place ≡ draft) old mid → Calls (Settles folder) mid new → new.honest
    → Rests draft old.slots new.slots
settled_rests draft folder {old} {mid} {new} changes calls honest place other =
    let before = changes.others (calls.honest honest) place other in
    ⊎_elim (λ same. inl (same place ∙ before))
    (λ did. ⊎_elim (λ inside. inr (did.inside place inside ∙ ap (λ (slot : Slot). at_rest slot.now) before)) (λ outside. inl (did.outside place outside ∙ before))
    (folder_decided place.folder folder))
    (calls.passes honest).within

-- and the draft is removed
pub removed_rests : (draft : Place) {old : Slots} {mid new : View} → Rests draft old mid.slots → Calls (Removes draft) mid new → new.honest → Rests draft old new.slots
removed_rests draft {old} {mid} {new} rests calls honest place other =
    let same : new.slots place ≡ mid.slots place = ⊎_elim (λ stays. stays place) (λ did. did.elsewhere place other) (calls.passes honest).within in
    ⊎_elim (λ is. inl (same ∙ is)) (λ is. inr (same ∙ is)) (rests place other)

-- nothing but the draft changed
pub changed_rests : (draft : Place) (old new : View) → ChangesOnly (λ place. place ≡ draft) old new → new.honest → Rests draft old.slots new.slots
changed_rests draft old new changes honest place other = inl (changes.others honest place other)

-- what a call of `create` says of its file and of its writer
pub created_growing : {W E : Type 0} (Honest : Type 0) (K : W → Type 0) (place : Place) (old new : Slots) (result : Result W E)
    → IfOk result (λ writer. Honest → Creates place old new × K writer) → OnOk result (Honest → (new place).now ≡ Growing)
created_growing Honest K place old new (Ok writer) created = λ honest. ap (λ (slot : Slot). slot.now) (created honest).0.there
created_growing Honest K place old new (Err error) created = tt

pub created_empty : {W E : Type 0} (Honest : Type 0) (K : W → Type 0) (place : Place) (old new : Slots) (result : Result W E)
    → IfOk result (λ writer. Honest → Creates place old new × K writer) → IfOk result (λ writer. Honest → K writer)
created_empty Honest K place old new (Ok writer) created = λ honest. (created honest).1
created_empty Honest K place old new (Err error) created = tt

-- before the rename
pub beginning : (target own : Place) (text : List ℕ) {old : View} → ((left : Slots) → old.left_since old.moment left → Stops old.slots left) → Run (OldOrNew target own text old.slots) old old
beginning target own text {old} only = started old (λ place entry stop other. inl stop) only
