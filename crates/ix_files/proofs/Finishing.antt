-- A draft takes the place of a file.
use Rattle.std.proofs.Common.{◌≡◌, ◌⊎◌, inl, inr, ⊎_elim, ℕ, List, [], Option, Some, Result, Ok, Err, OnErr, sym, ap, subst, ◌∙◌}
use Rattle.std.specs.Prelude.{unwrap_or}
use Rattle.ix_files.specs.Changes.{StopsAt}
use Rattle.ix_files.specs.Slots.{Entry, Kept, Place, Slots, Stops, entered}
use Rattle.ix_files.specs.Steps.{Removes, Renames, Settles, Syncs}
use Rattle.ix_files.specs.Views.{Passes, View}
use Rattle.ix_files.proofs.Moments.{Allows, Run, called, elsewhere, entered_stops, place_decided, settled, started}

-- a claim of each error
pub of_any : {T E P : Type 0} (result : Result T E) → P → OnErr result P
of_any (Ok value) claim = tt
of_any (Err error) claim = claim

-- the bytes of a file that was synced
pub synced_now : {place : Place} {contents : Option (List ℕ)} (text : List ℕ) (old new : Slots) → contents ≡ Some text → Syncs place contents old new
    → (new place).now ≡ Kept text
synced_now text old new known syncs = ap (λ slot. slot.now) syncs.there ∙ ap (λ known. Kept (unwrap_or known [])) (sym syncs.known ∙ known)

-- at each name but the draft's is what could be left there, or at the target the text
abbrev pub OldOrNew : Place → Place → List ℕ → Slots → Place → Entry → Type 0
OldOrNew target own text old place entry = (place ≡ own → ⊥) → StopsAt (old place) entry ⊎ ((place ≡ target) × (entry ≡ Kept text))

-- a file that is on the disk takes the place of another
renamed : (target own : Place) (text : List ℕ) (old mid new : Slots) → Allows (OldOrNew target own text old) mid
    → (mid own).now ≡ Kept text → Renames own target mid new → Allows (OldOrNew target own text old) new
renamed target own text old mid new allows is_kept renames place entry stop other = ⊎_elim
    (λ at. let there : new place ≡ entered (mid place) (Kept text) = subst (λ place. new place ≡ entered (mid place) (Kept text)) (sym at) (renames.there ∙ ap (entered (mid target)) is_kept) in
    ⊎_elim (λ same. inr (at, same)) (λ before. allows place entry before other)
    (entered_stops (mid place) text entry (subst (λ slot. StopsAt slot entry) there stop)))
    (λ off. allows place entry (subst (λ slot. StopsAt slot entry) (renames.elsewhere place other off) stop) other)
    (place_decided place target)

module _ {target own : Place} {text : List ℕ} {old : View} where
  pub after_sync : {contents : Option (List ℕ)} {new : View} → ((left : Slots) → old.left_since old.moment left → Stops old.slots left)
      → Passes (Syncs own contents) old new → Run (OldOrNew target own text old.slots) old new
  after_sync only passes =
      let begun : Run (OldOrNew target own text old.slots) old old = started old (λ place entry stop other. inl stop) only in
      called begun passes (λ slots did. elsewhere old.slots slots begun.now did.elsewhere)

  pub after_rename : {mid new : View} → Run (OldOrNew target own text old.slots) old mid → (mid.slots own).now ≡ Kept text
      → Passes (Renames own target) mid new → Run (OldOrNew target own text old.slots) old new
  after_rename {mid} run is_kept passes = called run passes (λ slots did. renamed target own text old.slots mid.slots slots run.now is_kept did)

  pub after_remove : {mid new : View} → Run (OldOrNew target own text old.slots) old mid → Passes (Removes own) mid new
      → Run (OldOrNew target own text old.slots) old new
  after_remove {mid} run passes = called run passes (λ slots did. elsewhere mid.slots slots run.now did.elsewhere)

  pub after_folder : {folder : List ℕ} {mid new : View} → Run (OldOrNew target own text old.slots) old mid → Passes (Settles folder) mid new
      → Run (OldOrNew target own text old.slots) old new
  after_folder {folder = folder} {mid} run passes = called run passes (λ slots did. settled folder mid.slots slots run.now did)
