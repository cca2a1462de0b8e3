-- What was removed is gone.
use Rattle.std.proofs.Common.{◌≡◌, ◌≢◌, ◌⊎◌, inl, inr, ⊎_elim, List, refl, ap, subst, ◌∙◌}
use Rattle.ix_files.specs.Changes.{AreGone, ChangesOnly}
use Rattle.ix_files.specs.Slots.{Entry, Growing, IsAmong, Kept, Nothing, Place, Slot, Whole}
use Rattle.ix_files.specs.Views.{View}

abbrev IsThere : Entry → Type 0
IsThere Nothing = ⊥
IsThere Growing = Unit {0}
IsThere (Whole bytes) = Unit {0}
IsThere (Kept bytes) = Unit {0}

is_nothing : (entry : Entry) → (entry ≡ Nothing) ⊎ (entry ≢ Nothing)
is_nothing Nothing = inl refl
is_nothing Growing = inr (λ same. subst IsThere same tt)
is_nothing (Whole bytes) = inr (λ same. subst IsThere same tt)
is_nothing (Kept bytes) = inr (λ same. subst IsThere same tt)

-- a file is gone that is among what was removed if it was there
pub is_gone : (places : List Place) (place : Place) (old new : View) → ChangesOnly (IsAmong places) old new → new.honest → AreGone places new.slots
    → ((old.slots place).now ≢ Nothing → IsAmong places place) → (new.slots place).now ≡ Nothing
is_gone places place old new changes honest gone among = ⊎_elim (λ nothing. nothing)
    (λ there. absurd (there (⊎_elim
    (λ nothing. ap (λ (slot : Slot). slot.now) (changes.others honest place (λ is. there (gone place is))) ∙ nothing)
    (λ was. gone place (among was))
    (is_nothing (old.slots place).now))))
    (is_nothing (new.slots place).now)
