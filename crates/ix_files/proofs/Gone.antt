-- Names that are removed one by one.
use Rattle.std.proofs.Common.{◌≡◌, ◌≢◌, ◌<◌, ◌≤◌, ◌⊎◌, ◌+◌, inl, inr, ⊎_elim, ℕ, List, Some, slice_get, get_or, option_map, length, map, refl, sym, ap, subst, ◌∙◌, arith, Result, Ok, Err, OnErr, OnOk}
use Rattle.std.proofs.lemmas.Bool.{cases_lt}
use Rattle.std.proofs.lemmas.List.{length-map}
use Rattle.std.proofs.lemmas.Option.{same_Some, slice_get-get_or, slice_get-map, slice_get_within}
use Rattle.ix_files.specs.Changes.{AreGone}
use Rattle.ix_files.specs.Locations.{place_of}
use Rattle.ix_files.specs.Slots.{Entry, Growing, Kept, Nothing, Place, Slots, Whole}
use Rattle.ix_files.specs.Steps.{Removes}
use Rattle.ix_files.specs.Views.{Calls, View}
use Rattle.ix_files.specs.declared.location.Location.{Location}
use Rattle.ix_files.proofs.Moments.{place_decided}

-- There is no file of the first of these names.
abbrev pub AreGoneBelow : ℕ → List Place → Slots → Type 0
AreGoneBelow count names slots = (index : ℕ) (place : Place) → index < count → slice_get names index ≡ Some place → (slots place).now ≡ Nothing

removed_stays : (at place : Place) (old new : Slots) → Removes at old new → (old place).now ≡ Nothing → (new place).now ≡ Nothing
removed_stays at place old new did nothing = ⊎_elim
    (λ same. ap (λ (p : Place). (new p).now) same ∙ ap (λ slot. slot.now) did.there)
    (λ other. ap (λ slot. slot.now) (did.elsewhere place other) ∙ nothing)
    (place_decided place at)

pub all_gone : (names : List Location) (slots : Slots) (count : ℕ) → length names ≤ count → AreGoneBelow count (map place_of names) slots → AreGone (map place_of names) slots
all_gone names slots count all gone place among =
    let within = slice_get_within (map place_of names) among.0 place among.1 in
    gone among.0 place (omega (arith, all, within, length-map names place_of)) among.1

abbrev IsThere : Entry → Type 0
IsThere Nothing = ⊥
IsThere Growing = Unit {0}
IsThere (Whole bytes) = Unit {0}
IsThere (Kept bytes) = Unit {0}

is_nothing : (entry : Entry) → (entry ≡ Nothing) ⊎ (entry ≢ Nothing)
is_nothing Nothing = inl refl
is_nothing Growing = inr (λ same. subst IsThere same tt)
is_nothing (Whole bytes) = inr (λ same. subst IsThere same tt)
is_nothing (Kept bytes) = inr (λ same. subst IsThere same tt)

-- A call of `remove` leaves no file, or the system failed.
pub removed_or_failed : {T E : Type 0} (at : Place) (old new : View) (result : Result T E) → OnErr result (new.honest → (old.slots at).now ≢ Nothing → old.faults < new.faults)
    → OnOk result (new.honest → Removes at old.slots new.slots) → Calls (Removes at) old new → new.honest → ((new.slots at).now ≡ Nothing) ⊎ (old.faults < new.faults)
removed_or_failed at old new (Ok done) cause removed calls honest = inl (ap (λ slot. slot.now) (removed honest).there)
removed_or_failed at old new (Err error) cause removed calls honest = ⊎_elim
    (λ same. ⊎_elim (λ nothing. inl (ap (λ slot. slot.now) (same at) ∙ nothing)) (λ there. inr (cause honest there)) (is_nothing (old.slots at).now))
    (λ did. inl (ap (λ slot. slot.now) did.there))
    (calls.passes honest).within

lower_or_last : (k index : ℕ) → k < index + 1 → (k < index) ⊎ (k ≡ index)
lower_or_last k index low = ⊎_elim inl (λ high. inr (omega (arith, low, high))) (cases_lt k index)

-- one name more
pub one_more_gone : (names : List Place) (index : ℕ) (at : Place) (first old new : View) → slice_get names index ≡ Some at
    → (old.honest → AreGoneBelow index names old.slots ⊎ (first.faults < old.faults)) → (old.honest → first.faults ≤ old.faults) → Calls (Removes at) old new
    → (new.honest → ((new.slots at).now ≡ Nothing) ⊎ (old.faults < new.faults)) → new.honest
    → AreGoneBelow (index + 1) names new.slots ⊎ (first.faults < new.faults)
one_more_gone names index at first old new is before later calls removed honest =
    let passes = calls.passes honest in
    let honest_before = calls.honest honest in
    ⊎_elim
    (λ below. ⊎_elim
    (λ nothing. inl (λ k place low k_is. ⊎_elim
    (λ earlier. ⊎_elim (λ same. ap (λ slot. slot.now) (same place) ∙ below k place earlier k_is) (λ did. removed_stays at place old.slots new.slots did (below k place earlier k_is)) passes.within)
    (λ last. ap (λ (p : Place). (new.slots p).now) (same_Some place at (sym k_is ∙ ap (slice_get names) last ∙ is)) ∙ nothing)
    (lower_or_last k index low)))
    (λ failed. inr (omega (arith, later honest_before, failed)))
    (removed honest))
    (λ failed. inr (omega (arith, failed, passes.counted)))
    (before honest_before)

-- no name is below the first
pub none_gone : (names : List Place) (slots : Slots) → AreGoneBelow 0 names slots
none_gone names slots index place low is = absurd (omega (arith, low))

-- a name of the list by its place
pub name_at : (names : List Location) (index : ℕ) (at : Location) → index < length names → at ≡ get_or names index at → slice_get (map place_of names) index ≡ Some (place_of at)
name_at names index at low is = slice_get-map place_of names index ∙ ap (option_map place_of) (slice_get-get_or names index at low ∙ ap (λ (l : Location). Some l) (sym is))
