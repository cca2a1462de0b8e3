-- What the board's calls on its table require, said of a seat that is known by an equation.
use Rattle.std.proofs.Common.{◌≡◌, ℕ, suc, ◌+◌, ◌-◌, ◌<◌, eqb, ltb, true, List, [], ◌∷◌, sym, ap, subst, ◌∙◌, arith}
use Rattle.std.proofs.lemmas.Bool.Decides.{nat_tests}
use Rattle.std.specs.Prelude.{Some, None, nat_lt}
use mathlib.Core.Option as maybe
use prog.Atomic.{either}
use Rattle.atomic_table.specs.Table.{step, Allows, Splits, Joins}
use Rattle.ix_board.specs.declared.rule.Member.{Member}
use Rattle.ix_board.specs.declared.rule.Crew.{Crew}
use Rattle.ix_board.specs.declared.step.Step.{Step}
use Rattle.ix_board.specs.Machine.{first_held, held_after}
use Rattle.ix_board.specs.Crews.{member, crew, desk_crew, fresh_members, undealt, Seated, ClaimsOrLooks, Delivers, GivesUp, Fetches, all_but_first, first_alone, both_crews, no_crew}
use Rattle.ix_board.specs.Desks.{BoardView}
use Rattle.ix_board.specs.Kept.{IsKept}
use Rattle.ix_board.proofs.DeskPlays.{claims_or_looks, delivers, gives_up, fetches}
use Rattle.ix_board.proofs.SeatMoves.{deals, gathers}

module _ {P : Type 0} (v b : BoardView) (same : v ≡ b) where
  pub claims_at : (slots id k n : ℕ) (steps : List (Step P)) (me : Seated P) → me ≡ (desk_crew b.count b.workers n steps, []) → held_after (first_held b.count b.workers n) steps ≡ None → k < b.count
      → Allows (λ s. IsKept {P = P} v.count v.workers s) slots id me k (λ m. either (eqb m 0) 1 m) (ClaimsOrLooks (step slots k 0 1 maybe.none) me)
  claims_at slots id k n steps me is free h =
      let M : Seated P → Type 0 = λ m. Allows (λ s. IsKept {P = P} v.count v.workers s) slots id m k (λ x. either (eqb x 0) 1 x) (ClaimsOrLooks (step slots k 0 1 maybe.none) m) in
      let now : Seated P = (desk_crew b.count b.workers n steps, []) in
      let W : BoardView → Type 0 = λ w. Allows (λ s. IsKept {P = P} w.count w.workers s) slots id now k (λ x. either (eqb x 0) 1 x) (ClaimsOrLooks (step slots k 0 1 maybe.none) now) in
      subst M (sym is) (subst W (sym same) (claims_or_looks P b.count b.workers slots id n steps k h free))

  pub delivers_at : (slots id k n : ℕ) (steps : List (Step P)) (x : P) (me : Seated P) → me ≡ (desk_crew b.count b.workers n steps, (k, Some x) ∷ []) → held_after (first_held b.count b.workers n) steps ≡ Some k
      → Allows (λ s. IsKept {P = P} v.count v.workers s) slots id me k (λ m. either (eqb m 1) 2 m) (Delivers (step slots k 1 2 maybe.none) me)
  delivers_at slots id k n steps x me is held =
      let M : Seated P → Type 0 = λ m. Allows (λ s. IsKept {P = P} v.count v.workers s) slots id m k (λ y. either (eqb y 1) 2 y) (Delivers (step slots k 1 2 maybe.none) m) in
      let now : Seated P = (desk_crew b.count b.workers n steps, (k, Some x) ∷ []) in
      let W : BoardView → Type 0 = λ w. Allows (λ s. IsKept {P = P} w.count w.workers s) slots id now k (λ y. either (eqb y 1) 2 y) (Delivers (step slots k 1 2 maybe.none) now) in
      subst M (sym is) (subst W (sym same) (delivers P b.count b.workers slots id n steps k x held))

  pub gives_up_at : (slots id k n : ℕ) (steps : List (Step P)) (me : Seated P) → me ≡ (desk_crew b.count b.workers n steps, (k, None) ∷ []) → held_after (first_held b.count b.workers n) steps ≡ Some k
      → Allows (λ s. IsKept {P = P} v.count v.workers s) slots id me k (λ m. either (eqb m 1) 3 m) (GivesUp (step slots k 1 3 maybe.none) me)
  gives_up_at slots id k n steps me is held =
      let M : Seated P → Type 0 = λ m. Allows (λ s. IsKept {P = P} v.count v.workers s) slots id m k (λ y. either (eqb y 1) 3 y) (GivesUp (step slots k 1 3 maybe.none) m) in
      let now : Seated P = (desk_crew b.count b.workers n steps, (k, None) ∷ []) in
      let W : BoardView → Type 0 = λ w. Allows (λ s. IsKept {P = P} w.count w.workers s) slots id now k (λ y. either (eqb y 1) 3 y) (GivesUp (step slots k 1 3 maybe.none) now) in
      subst M (sym is) (subst W (sym same) (gives_up P b.count b.workers slots id n steps k held))

  -- the members that are not dealt yet: the next one, and those after it
  undealt_next : (n : ℕ) → n < b.workers → undealt {P = P} b.count b.workers n ≡ crew b.count b.workers (member n (nat_lt n b.count) [] ∷ fresh_members b.count (n + 1) (b.workers - (n + 1)))
  undealt_next n h =
      let e : b.workers - n ≡ suc (b.workers - (n + 1)) = omega arith in
      ap (λ (k : ℕ). crew {P = P} b.count b.workers (fresh_members b.count n k)) e

  pub deals_at : (id n : ℕ) (u : Crew P) → u ≡ undealt b.count b.workers n → n < b.workers → Splits (λ s. IsKept {P = P} v.count v.workers s) id u (all_but_first u) (first_alone u)
  deals_at id n u is h =
      let M : Crew P → Type 0 = λ d. Splits (λ s. IsKept {P = P} v.count v.workers s) id d (all_but_first d) (first_alone d) in
      let now : Crew P = crew b.count b.workers (member n (nat_lt n b.count) [] ∷ fresh_members b.count (n + 1) (b.workers - (n + 1))) in
      let W : BoardView → Type 0 = λ w. Splits (λ s. IsKept {P = P} w.count w.workers s) id now (all_but_first now) (first_alone now) in
      subst M (sym (is ∙ undealt_next n h)) (subst W (sym same) (deals P b.count b.workers id (member n (nat_lt n b.count) []) (fresh_members b.count (n + 1) (b.workers - (n + 1)))))

  pub dealt_left : (n : ℕ) (u : Crew P) → u ≡ undealt b.count b.workers n → n < b.workers → all_but_first u ≡ undealt b.count b.workers (n + 1)
  dealt_left n u is h = ap all_but_first (is ∙ undealt_next n h)

  pub dealt_right : (n : ℕ) (u : Crew P) → u ≡ undealt b.count b.workers n → n < b.workers → first_alone u ≡ crew b.count b.workers (member n (nat_lt n b.count) [] ∷ [])
  dealt_right n u is h = ap first_alone (is ∙ undealt_next n h)

  pub fetches_at : (slots id n : ℕ) (me : Seated P) → me ≡ (crew b.count b.workers (member n (nat_lt n b.count) [] ∷ []), []) → n < b.count
      → Allows (λ s. IsKept {P = P} v.count v.workers s) slots id me n (λ m. m) (Fetches (step slots n 0 0 maybe.none) me)
  fetches_at slots id n me is h =
      let t : ltb n b.count ≡ true = grind (arith, nat_tests) in
      let M : Seated P → Type 0 = λ m. Allows (λ s. IsKept {P = P} v.count v.workers s) slots id m n (λ x. x) (Fetches (step slots n 0 0 maybe.none) m) in
      let now : Seated P = (crew b.count b.workers (member n true [] ∷ []), []) in
      let W : BoardView → Type 0 = λ w. Allows (λ s. IsKept {P = P} w.count w.workers s) slots id now n (λ x. x) (Fetches (step slots n 0 0 maybe.none) now) in
      let e : me ≡ now = is ∙ (λ i. (crew b.count b.workers (member n (t i) [] ∷ []), [])) in
      subst M (sym e) (subst W (sym same) (fetches P b.count b.workers slots id n h))

  pub gathers_at : (id : ℕ) (u : Crew P) (other : ℕ) (w : Crew P) (ms ns : List (Member P)) → u ≡ crew b.count b.workers ms → w ≡ crew b.count b.workers ns
      → Joins (λ s. IsKept {P = P} v.count v.workers s) id u other w (both_crews u w) no_crew
  gathers_at id u other w ms ns is_u is_w =
      let M : Crew P → Crew P → Type 0 = λ x y. Joins (λ s. IsKept {P = P} v.count v.workers s) id x other y (both_crews x y) no_crew in
      let x : Crew P = crew b.count b.workers ms in
      let y : Crew P = crew b.count b.workers ns in
      let W : BoardView → Type 0 = λ d. Joins (λ s. IsKept {P = P} d.count d.workers s) id x other y (both_crews x y) no_crew in
      let first : M x y = subst W (sym same) (gathers P b.count b.workers id ms other ns) in
      let L : Crew P → Type 0 = λ d. M d y in
      let R : Crew P → Type 0 = λ d. M u d in
      subst R (sym is_w) (subst L (sym is_u) first)
