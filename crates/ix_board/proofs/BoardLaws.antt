-- The laws of the machine, proved.
use Rattle.std.proofs.Common.{◌≡◌, ◌≢◌, ℕ, ◌+◌, ◌<◌, Bool, true, false, cond, ltb, ◌&&◌, List, length, refl, sym, ap, ◌∙◌, inl, inr, ⊎_elim, arith}
use Rattle.std.specs.Prelude.{Some, slice_get}
use Rattle.std.specs.List.{count_by}
use Rattle.std.proofs.lemmas.Option.{same_Some, slice_get_within}
use Rattle.std.proofs.lemmas.Bool.Decides.{nat_tests}
use Rattle.ix_board.specs.declared.step.Step.TheVariants.{Claim, Look}
use Rattle.ix_board.specs.Machine.{Place, open_place, held_by, done_by, places_after, place_at_first, opening}
use Rattle.ix_board.specs.Laws.{left_by, claims, finishes, times_held, times_finished, is_first, HeldAsOwnStepsTell, HeldByOne, NeverOpenAgain, DoneKeepsItsPiece, ClaimedOnce, FinishedOnce, DoneAsDelivered, SeenIsNotOpen}
use Rattle.ix_board.proofs.Runs.{places_after-append, length-places_after, MayRun-rest, course, stays_taken, delivered_stands, seen_stands}
use Rattle.ix_board.proofs.SliceGets.{get-within}
use Rattle.ix_board.proofs.Holders.{holders, opening-get, place_in_run, first_cases}

module _ (P : Type 0) where
  pub own_steps_tell : HeldAsOwnStepsTell P
  own_steps_tell count workers k w run may = let t = holders count workers run may in (t.told w k, t.true_of w k)

  pub held_by_one : HeldByOne P
  held_by_one count workers k v w run may a b =
      let t = holders count workers run may in
      let e : held_by v ≡ held_by w = same_Some (held_by v) (held_by w) (sym (t.true_of v k a) ∙ t.true_of w k b) in
      cc

  pub never_open_again : NeverOpenAgain P
  never_open_again count workers k run later may n e =
      let b = left_by count workers run in
      let all : slice_get (places_after b later) k ≡ Some open_place = ap (λ (l : List (Place P)). slice_get l k) (sym (places_after-append (opening count workers) run later)) ∙ e in
      let within : k < length (places_after b later) = slice_get_within (places_after b later) k open_place all in
      let at = get-within b k (omega (arith, length-places_after b later)) in
      stays_taken b later k at.0 (MayRun-rest (opening count workers) run later may) at.1 (λ o. n (at.1 ∙ ap Some o)) all

  pub done_keeps_its_piece : DoneKeepsItsPiece P
  done_keeps_its_piece count workers k w x run later may at =
      let b = left_by count workers run in
      let c = course b later k (done_by w x) (MayRun-rest (opening count workers) run later may) at in
      ap (λ (l : List (Place P)). slice_get l k) (places_after-append (opening count workers) run later) ∙ (c.1 ∙ ap Some (c.2.stays_done w x refl))

  first_count : (count workers k : ℕ) → k < count → (b c : Bool) → (ltb k count && ltb k workers) ≡ b → ltb k workers ≡ c → cond b 1 0 ≡ times_held {P = P} (cond c (held_by k) open_place)
  first_count count workers k h true true e f = refl
  first_count count workers k h true false e f = grind (arith, nat_tests)
  first_count count workers k h false true e f = grind (arith, nat_tests)
  first_count count workers k h false false e f = refl

  pub claimed_once : ClaimedOnce P
  claimed_once count workers k p run may at =
      let h : k < count = place_in_run count workers k run p at in
      let c = course (opening count workers) run k (place_at_first workers k) may (opening-get count workers k h) in
      let same : c.0 ≡ p = same_Some c.0 p (sym c.1 ∙ at) in
      let f = first_count count workers k h (is_first count workers k) (ltb k workers) refl refl in
      ap (λ (n : ℕ). count_by (λ e. claims k e.1) run + n) f ∙ (c.2.held_count ∙ ap times_held same)

  none_finished : (b : Bool) (k : ℕ) → times_finished {P = P} (cond b (held_by k) open_place) ≡ 0
  none_finished true k = refl
  none_finished false k = refl

  pub finished_once : FinishedOnce P
  finished_once count workers k p run may at =
      let h : k < count = place_in_run count workers k run p at in
      let c = course (opening count workers) run k (place_at_first workers k) may (opening-get count workers k h) in
      let same : c.0 ≡ p = same_Some c.0 p (sym c.1 ∙ at) in
      let f : count_by (λ e. finishes k e.1) run + times_finished {P = P} (place_at_first workers k) ≡ times_finished c.0 = c.2.finish_count in
      let z : times_finished {P = P} (place_at_first workers k) ≡ 0 = none_finished (ltb k workers) k in
      let e : times_finished c.0 ≡ times_finished p = ap times_finished same in
      omega arith

  not_done_at_first : (b : Bool) (k w : ℕ) (x : P) → ◌≡◌ {A = Place P} (cond b (held_by k) open_place) (done_by w x) → ⊥
  not_done_at_first true k w x e = cc
  not_done_at_first false k w x e = cc

  pub done_as_delivered : DoneAsDelivered P
  done_as_delivered count workers k w x run may = (
    λ at.
        let h : k < count = place_in_run count workers k run (done_by w x) at in
        let c = course (opening count workers) run k (place_at_first workers k) may (opening-get count workers k h) in
        ⊎_elim
        (λ e. absurd (not_done_at_first (ltb k workers) k w x e))
        (λ d. d)
        (c.2.comes_done w x (same_Some c.0 (done_by w x) (sym c.1 ∙ at))),
    λ d. delivered_stands (opening count workers) run k w x may d,
  )

  first_not_open : (workers k : ℕ) (b : Bool) → ltb k workers ≡ b → k < workers → ◌≢◌ {A = Place P} (cond b (held_by k) open_place) open_place
  first_not_open workers k true is h e = cc
  first_not_open workers k false is h e = grind (arith, nat_tests)

  pub seen_is_not_open : SeenIsNotOpen P
  seen_is_not_open count workers k w run may seen =
      ⊎_elim
      (λ looked. seen_stands (opening count workers) run k w (Look k) (inl refl) may looked)
      (λ rest.
      ⊎_elim
      (λ claimed. seen_stands (opening count workers) run k w (Claim k) (inr refl) may claimed)
      (λ first.
      let f = first_cases count workers w k (ltb w count && ltb w workers) refl first in
      let h : k < count = omega arith in
      let g : k < workers = omega arith in
      stays_taken (opening count workers) run k (place_at_first workers k) may (opening-get count workers k h) (first_not_open workers k (ltb k workers) refl g))
      rest)
      seen
