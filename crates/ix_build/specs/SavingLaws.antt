-- A maker that saves stays one, by what stays of it from call to call.
use Rattle.std.proofs.Common.{◌≡◌, ℕ, ◌^◌, ◌-◌, ◌≤◌, List, [], ◌∷◌, ◌++◌, length, All, refl, sym, ap, subst, ◌∙◌, ⊎_elim, arith}
use Rattle.std.specs.Prelude.{Option, Some, None}
use Rattle.std.proofs.lemmas.Bool.{cases_lt}
use Rattle.std.proofs.lemmas.List.{append-nil, append_assoc, drop_all, drop_at}
use Rattle.std.proofs.lemmas.List.Elements.{All-nil, All-append, All-weaker}
use Rattle.ix_pool.specs.declared.maker.MakeError.{MakeError}
use Rattle.ix_pool.specs.declared.maker.Asked.{Asked}
use Rattle.ix_build.specs.declared.saving_maker.SavingMaker.{SavingMaker}
use Rattle.ix_build.specs.SavingMakers.{HasSaved, IsOfStore, StaysSavingMaker, made_places, with_place}
use Rattle.ix_build.specs.Stores.{CountsMore}
use Rattle.ix_pool.specs.Shares.{gained}

-- what two lists of askings made one after another
pub made_places-append : (askings more : List Asked) → made_places (askings ++ more) ≡ made_places askings ++ made_places more
made_places-append [] more = refl
made_places-append (asked ∷ askings) more = ap (with_place asked.error asked.place) (made_places-append askings more) ∙ pushed asked.error asked.place (made_places askings)
  where
    pushed : (error : Option MakeError) (place : ℕ) (xs : List ℕ) → with_place error place (xs ++ made_places more) ≡ with_place error place xs ++ made_places more
    pushed None place xs = refl
    pushed (Some error) place xs = refl

-- what a list has gained twice is what it gained first and what it gained then
pub gained_on : (first second third : List Asked) → second ≡ first ++ gained first second → third ≡ second ++ gained second third → gained first third ≡ gained first second ++ gained second third
gained_on first second third one two =
    let both = gained first second ++ gained second third in
    ap (gained first) (two ∙ ap (λ (l : List Asked). l ++ gained second third) one ∙ append_assoc first (gained first second) (gained second third))
    ∙ drop_at first both (length first) refl

-- a refusal that was counted stays counted, and was not counted before
pub counts_on : (first second third : ℕ) → CountsMore first second → second ≤ third → CountsMore first third
counts_on first second third more later = λ room. let one = more room in omega (arith, one, later)

pub counts_since : (first second third : ℕ) → first ≤ second → second ≤ third → CountsMore second third → CountsMore first third
counts_since first second third earlier later more = λ room.
    ⊎_elim (λ below. let one = more below in omega (arith, one, earlier)) (λ full. omega (arith, room, full, later)) (cases_lt second (2 ^ 64 - 1))

module _ {T : Type 0} (places : T → List ℕ) (refusals : T → ℕ) (back : T → ℕ → List ℕ → Type 0) where
  pub saved_none : (store : T) → HasSaved places refusals back store store []
  saved_none store = record { saved = sym (append-nil (places store)); counted = omega arith; keeps = λ place bytes. (λ h. h, λ h. h) }

  pub saved_both : (first second third : T) (one two : List ℕ) → HasSaved places refusals back first second one → HasSaved places refusals back second third two → HasSaved places refusals back first third (one ++ two)
  saved_both first second third one two earlier later =
      let a = earlier.counted in
      let b = later.counted in
      record {
        saved = later.saved ∙ ap (λ (l : List ℕ). l ++ two) earlier.saved ∙ append_assoc (places first) one two;
        counted = omega (arith, a, b);
        keeps = λ place bytes. (λ h. (earlier.keeps place bytes).0 ((later.keeps place bytes).0 h), λ h. (later.keeps place bytes).1 ((earlier.keeps place bytes).1 h));
      }

  pub saving_itself : (maker : SavingMaker T) → StaysSavingMaker places refusals back maker maker
  saving_itself maker =
      let askings = maker.inverter.asked.items in
      let none : gained askings askings ≡ [] = drop_all (length askings) askings (omega arith) in
      record {
        same = record { docs = refl; stop = refl; bounds = refl };
        grown = sym (ap (λ (l : List Asked). askings ++ l) none ∙ append-nil askings);
        store = subst (λ (l : List Asked). HasSaved places refusals back maker.store maker.store (made_places l)) (sym none) (saved_none maker.store);
        caused = let P = IsOfStore maker.inverter.bounds.now (refusals maker.store) (refusals maker.store) in subst (All P) (sym none) (All-nil P);
      }

  pub saving_on : (first second third : SavingMaker T) → StaysSavingMaker places refusals back first second → StaysSavingMaker places refusals back second third → StaysSavingMaker places refusals back first third
  saving_on first second third one two =
      let a = first.inverter.asked.items in
      let b = second.inverter.asked.items in
      let c = third.inverter.asked.items in
      let both = gained_on a b c one.grown two.grown in
      let Saved : List ℕ → Type 0 = λ l. HasSaved places refusals back first.store third.store l in
      let bounds = first.inverter.bounds.now in
      let in_first = refusals first.store in
      let in_second = refusals second.store in
      let in_third = refusals third.store in
      let Caused = IsOfStore bounds in_first in_third in
      let earlier =
      All-weaker (IsOfStore bounds in_first in_second) Caused (λ asked caused within refused. counts_on in_first in_second in_third (caused within refused) two.store.counted) (gained a b) one.caused in
      let later =
      All-weaker (IsOfStore bounds in_second in_third) Caused
      (λ asked caused within refused. counts_since in_first in_second in_third one.store.counted two.store.counted (caused within refused)) (gained b c)
      (subst (λ (l : List ℕ). All (IsOfStore l in_second in_third) (gained b c)) one.same.bounds two.caused) in
      record {
        same = record { docs = two.same.docs ∙ one.same.docs; stop = two.same.stop ∙ one.same.stop; bounds = two.same.bounds ∙ one.same.bounds };
        grown =
            two.grown ∙ ap (λ (l : List Asked). l ++ gained b c) one.grown ∙ append_assoc a (gained a b) (gained b c) ∙ ap (λ (l : List Asked). a ++ l) (sym both);
        store =
            subst Saved (sym (made_places-append (gained a b) (gained b c)) ∙ ap made_places (sym both))
            (saved_both first.store second.store third.store (made_places (gained a b)) (made_places (gained b c)) one.store two.store);
        caused = subst (All Caused) (sym both) (All-append Caused (gained a b) (gained b c) earlier later);
      }
