-- Some names change, and all others stay.
use Rattle.std.proofs.Common.{◌≡◌, ⊎_elim, inr, refl, sym, subst, ◌∙◌, arith}
use Rattle.ix_files.specs.Changes.{ChangesOnly, IsOld, StopsAt}
use Rattle.ix_files.specs.Drafts.{IsDraftPlace}
use Rattle.ix_files.specs.Slots.{IsSameBut, Nothing, Place, Slots, Stops}
use Rattle.ix_files.specs.Steps.{Overwrites}
use Rattle.ix_files.specs.Views.{Calls, GoesOn, View}
use Rattle.ix_files.proofs.Moments.{Run, called, elsewhere, place_decided, started}

pub unchanged : (Excepted : Place → Type 0) (old : View) → ((left : Slots) → old.left_since old.moment left → Stops old.slots left) → ChangesOnly Excepted old old
unchanged Excepted old only = record {
  others = λ honest place other. refl;
  any_moment = λ honest.
      let run : Run (λ place entry. ¬ (Excepted place) → StopsAt (old.slots place) entry) old old = started old (λ place entry stop other. stop) only in
      run.moments;
}

-- one call more, of which it is known that answers are as the files were
pub changed_if : {Excepted : Place → Type 0} {step : Slots → Slots → Type 0} {old mid new : View} → ChangesOnly Excepted old mid → Calls step mid new
    → (new.honest → (slots : Slots) → step mid.slots slots → (place : Place) → ¬ (Excepted place) → slots place ≡ mid.slots place) → ChangesOnly Excepted old new
changed_if {Excepted = Excepted} {old = old} {mid} {new} changes calls same = record {
  others = λ honest place other. ⊎_elim (λ stays. stays place) (λ did. same honest new.slots did place other) (calls.passes honest).within ∙ changes.others (calls.honest honest) place other;
  any_moment = λ honest.
      let run : Run (λ place entry. ¬ (Excepted place) → StopsAt (old.slots place) entry) old mid = record {
        moments = changes.any_moment (calls.honest honest);
        now = λ place entry stop other. subst (λ slot. StopsAt slot entry) (changes.others (calls.honest honest) place other) stop;
      } in
      (called run (calls.passes honest) (λ slots did. elsewhere mid.slots slots run.now (same honest slots did))).moments;
}

-- one call more
pub changed : {Excepted : Place → Type 0} {step : Slots → Slots → Type 0} {old mid new : View} → ChangesOnly Excepted old mid → Calls step mid new
    → ((slots : Slots) → step mid.slots slots → (place : Place) → ¬ (Excepted place) → slots place ≡ mid.slots place) → ChangesOnly Excepted old new
changed changes calls same = changed_if changes calls (λ honest. same)

-- changes, and changes after them
pub changed_again : {Excepted : Place → Type 0} {old mid new : View} → ChangesOnly Excepted old mid → ChangesOnly Excepted mid new → (new.honest → mid.honest)
    → ChangesOnly Excepted old new
changed_again {Excepted = Excepted} {old = old} {mid} {new} first next honest_before = record {
  others = λ honest place other. next.others honest place other ∙ first.others (honest_before honest) place other;
  any_moment = λ honest.
      let early = first.any_moment (honest_before honest) in
      let late = next.any_moment honest in
      let was_old : (left : Slots) → IsOld Excepted mid.slots left → IsOld Excepted old.slots left
      = λ left is_old place other. subst (λ slot. StopsAt slot (left place).now) (first.others (honest_before honest) place other) (is_old place other) in
      record {
        later = omega (arith, early.later, late.later);
        each = λ left was. ⊎_elim (early.each left) (was_old left) (late.before _ left early.later was);
        before = λ t left le was. ⊎_elim (early.before t left le) (λ is_old. inr (was_old left is_old)) (late.before t left (omega (arith, le, early.later)) was);
      };
}

-- what is written over where there is no file changes no name
pub overwrites_none : (place : Place) (old new : Slots) → (old place).now ≡ Nothing → Overwrites place old new → (other : Place) → new other ≡ old other
overwrites_none place old new nothing did other = ⊎_elim (λ at. subst (λ p. new p ≡ old p) (sym at) (did.none nothing)) (did.elsewhere other) (place_decided other place)

-- a step at the name of a draft
pub outside : {target own : Place} (old new : Slots) → IsDraftPlace target own → IsSameBut own old new → (place : Place) → ¬ (IsDraftPlace target place) → new place ≡ old place
outside {target = target} old new draft same place other = same place (λ is. other (subst (IsDraftPlace target) (sym is) draft))

pub standing : (old : View) → GoesOn old old
standing old = record {
  honest = λ honest. honest;
  places = λ honest path. refl;
  folders = λ honest path. refl;
  later = λ honest. omega arith;
  counted = λ honest. omega arith;
}

pub went_on : {step : Slots → Slots → Type 0} {old mid new : View} → GoesOn old mid → Calls step mid new → GoesOn old new
went_on before calls = record {
  honest = λ honest. before.honest (calls.honest honest);
  places = λ honest path. (calls.passes honest).places path ∙ before.places (calls.honest honest) path;
  folders = λ honest path. (calls.passes honest).folders path ∙ before.folders (calls.honest honest) path;
  later = λ honest. omega (arith, before.later (calls.honest honest), (calls.passes honest).later);
  counted = λ honest. omega (arith, before.counted (calls.honest honest), (calls.passes honest).counted);
}

pub went_on_again : {old mid new : View} → GoesOn old mid → GoesOn mid new → GoesOn old new
went_on_again before next = record {
  honest = λ honest. before.honest (next.honest honest);
  places = λ honest path. next.places honest path ∙ before.places (next.honest honest) path;
  folders = λ honest path. next.folders honest path ∙ before.folders (next.honest honest) path;
  later = λ honest. omega (arith, before.later (next.honest honest), next.later honest);
  counted = λ honest. omega (arith, before.counted (next.honest honest), next.counted honest);
}
