-- Runs: how they are put together, and what they make of one place.
use Rattle.std.proofs.Common.{◌≡◌, ◌≢◌, ◌⊎◌, ℕ, ◌+◌, ◌<◌, eq-eqb, ne_eqb, Bool, true, false, cond, eqb, List, [], ◌∷◌, ◌++◌, length, refl, sym, ap, subst, ◌∙◌, inl, inr, ⊎_elim, length-set, arith}
use Rattle.std.specs.Prelude.{Some, slice_get}
use Rattle.std.specs.List.{Contains, count_by}
use Rattle.ix_board.specs.declared.step.Step.{Step}
use Rattle.ix_board.specs.declared.step.Step.TheVariants.{Claim, Deliver, GiveUp, Look}
use Rattle.ix_board.specs.Machine.{Place, open_place, held_by, done_by, given_up_by, Run, after, May, MayRun, places_after, steps_by}
use Rattle.ix_board.specs.Laws.{claims, finishes, times_held, times_finished}
use native.Mathlib.Decide.{ℕ_discrete}
use Rattle.std.proofs.lemmas.Option.{same_Some}
use Rattle.std.proofs.lemmas.List.Sums.{sum_by-cons}
use Rattle.ix_board.proofs.SliceGets.{contains_there, contains_cases}
use Rattle.ix_board.proofs.Turns.{turns, held_once}

module _ {P : Type 0} where
  pub places_after-append : (b : List (Place P)) (run more : Run P) → places_after b (run ++ more) ≡ places_after (places_after b run) more
  places_after-append b [] more = refl
  places_after-append b (e ∷ run) more = places_after-append (after b e.0 e.1) run more

  pub MayRun-first : (b : List (Place P)) (run more : Run P) → MayRun b (run ++ more) → MayRun b run
  MayRun-first b [] more may = tt
  MayRun-first b (e ∷ run) more may = (may.0, MayRun-first (after b e.0 e.1) run more may.1)

  pub MayRun-rest : (b : List (Place P)) (run more : Run P) → MayRun b (run ++ more) → MayRun (places_after b run) more
  MayRun-rest b [] more may = may
  MayRun-rest b (e ∷ run) more may = MayRun-rest (after b e.0 e.1) run more may.1

  pub MayRun-snoc : (b : List (Place P)) (run : Run P) (w : ℕ) (s : Step P) → MayRun b run → May (places_after b run) w s → MayRun b (run ++ (w, s) ∷ [])
  MayRun-snoc b [] w s may now = (now, tt)
  MayRun-snoc b (e ∷ run) w s may now = (may.0, MayRun-snoc (after b e.0 e.1) run w s may.1 now)

  length-after : (b : List (Place P)) (w : ℕ) (s : Step P) → length (after b w s) ≡ length b
  length-after b w (Claim k) = length-set b k (held_by w)
  length-after b w (Deliver k x) = length-set b k (done_by w x)
  length-after b w (GiveUp k) = length-set b k (given_up_by w)
  length-after b w (Look k) = refl

  pub length-places_after : (b : List (Place P)) (run : Run P) → length (places_after b run) ≡ length b
  length-places_after b [] = refl
  length-places_after b (e ∷ run) = length-places_after (after b e.0 e.1) run ∙ length-after b e.0 e.1

  -- ---- one place over a run

  -- over a run the place k went from p to q
  pub record Course (k : ℕ) (run : Run P) (p q : Place P) : Type 0 where
    pub held_count : count_by (λ e. claims k e.1) run + times_held p ≡ times_held q
    pub finish_count : count_by (λ e. finishes k e.1) run + times_finished p ≡ times_finished q
    pub stays_done : (v : ℕ) (x : P) → p ≡ done_by v x → q ≡ done_by v x
    pub comes_done : (v : ℕ) (x : P) → q ≡ done_by v x → (p ≡ done_by v x) ⊎ Contains run (v, Deliver k x)

  abbrev Goes : List (Place P) → Run P → ℕ → Place P → Type 0
  Goes b run k p = (q : Place P) × (slice_get (places_after b run) k ≡ Some q) × Course k run p q

  pub course : (b : List (Place P)) (run : Run P) (k : ℕ) (p : Place P) → MayRun b run → slice_get b k ≡ Some p → Goes b run k p
  course b [] k p may at = (
    p,
    at,
    record { held_count = omega arith; finish_count = omega arith; stays_done = λ v x e. e; comes_done = λ v x e. inl e },
  )
  course b (e ∷ run) k p may at =
      let one = turns b e.0 e.1 k p may.0 at in
      let rest = course (after b e.0 e.1) run k one.0 may.1 one.1 in
      let t = one.2 in
      let c = rest.2 in
      let h1 : cond (claims k e.1) 1 0 + times_held p ≡ times_held one.0 = t.held_count in
      let h2 : count_by (λ d. claims k d.1) run + times_held one.0 ≡ times_held rest.0 = c.held_count in
      let f1 : cond (finishes k e.1) 1 0 + times_finished p ≡ times_finished one.0 = t.finish_count in
      let f2 : count_by (λ d. finishes k d.1) run + times_finished one.0 ≡ times_finished rest.0 = c.finish_count in (
        rest.0,
        rest.1,
        record {
          held_count = omega (arith, sum_by-cons (λ (d : ℕ × Step P). cond (claims k d.1) 1 0) e run);
          finish_count = omega (arith, sum_by-cons (λ (d : ℕ × Step P). cond (finishes k d.1) 1 0) e run);
          stays_done = λ v x d. c.stays_done v x (t.stays_done v x d);
          comes_done = λ v x d.
              ⊎_elim
              (λ m.
              ⊎_elim
              (λ i. inl i)
              (λ i. inr (0, omega arith, i))
              (t.comes_done v x m))
              (λ m. inr (contains_there e run (v, Deliver k x) m))
              (c.comes_done v x d);
        },
      )

  -- a place that is not open is never open again
  pub stays_taken : (b : List (Place P)) (run : Run P) (k : ℕ) (p : Place P) → MayRun b run → slice_get b k ≡ Some p → p ≢ open_place → slice_get (places_after b run) k ≢ Some open_place
  stays_taken b run k p may at n e =
      let c = course b run k p may at in
      let q : c.0 ≡ open_place = same_Some c.0 open_place (sym c.1 ∙ e) in
      let one : times_held p ≡ 1 = held_once p n in
      let z : times_held c.0 ≡ 0 = ap times_held q in
      let h : count_by (λ d. claims k d.1) run + times_held p ≡ times_held c.0 = c.2.held_count in
      omega arith

  -- a delivery in the run stands in the end
  pub delivered_stands : (b : List (Place P)) (run : Run P) (k w : ℕ) (x : P) → MayRun b run → Contains run (w, Deliver k x) → slice_get (places_after b run) k ≡ Some (done_by w x)
  delivered_stands b [] k w x may c = let h : c.0 < 0 = c.1 in absurd (omega arith)
  delivered_stands b (e ∷ run) k w x may c =
      ⊎_elim
      (λ here.
      let M : ℕ × Step P → Type 0 = λ d. May b d.0 d.1 × MayRun (after b d.0 d.1) run → slice_get (places_after (after b d.0 d.1) run) k ≡ Some (done_by w x) in
      subst M (sym here) (λ m.
      let one = turns b w (Deliver k x) k (held_by w) m.0 m.0 in
      let rest = course (after b w (Deliver k x)) run k one.0 m.1 one.1 in
      rest.1 ∙ ap Some (rest.2.stays_done w x (one.2.delivers x refl))) (may.0, may.1))
      (λ later. delivered_stands (after b e.0 e.1) run k w x may.1 later)
      (contains_cases e run (w, Deliver k x) c)

  taken_now : (b : List (Place P)) (w k : ℕ) (s : Step P) → May b w s → (s ≡ Look k) ⊎ (s ≡ Claim k) → (p : Place P) × (slice_get b k ≡ Some p)
  taken_now b w k s may h =
      ⊎_elim
      (λ e. let M : Step P → Type 0 = λ t. May b w t in let m = subst M e may in (m.0, m.1))
      (λ e. let M : Step P → Type 0 = λ t. May b w t in let m = subst M e may in (open_place, m.0))
      h

  -- a place that a worker looked at or claimed is not open in the end
  pub seen_stands : (b : List (Place P)) (run : Run P) (k w : ℕ) (s : Step P) → (s ≡ Look k) ⊎ (s ≡ Claim k) → MayRun b run → Contains (steps_by w run) s → slice_get (places_after b run) k ≢ Some open_place
  seen_stands b [] k w s h may c = let l : c.0 < 0 = c.1 in absurd (omega arith)
  seen_stands b (e ∷ run) k w s h may c =
      let later = λ (d : Contains (steps_by w run) s). seen_stands (after b e.0 e.1) run k w s h may.1 d in
      let M : Bool → Type 0 = λ t. Contains (cond t (e.1 ∷ steps_by w run) (steps_by w run)) s → slice_get (places_after (after b e.0 e.1) run) k ≢ Some open_place in
      let both : M (eqb e.0 w) =
      elim (eqb e.0 w) as M [
        | true ↦ λ d.
            ⊎_elim
            (λ here.
            let hh : (e.1 ≡ Look k) ⊎ (e.1 ≡ Claim k) = ⊎_elim (λ i. inl (here ∙ i)) (λ i. inr (here ∙ i)) h in
            let p = taken_now b e.0 k e.1 may.0 hh in
            let one = turns b e.0 e.1 k p.0 may.0 p.1 in
            stays_taken (after b e.0 e.1) run k one.0 may.1 one.1 (one.2.seen hh))
            later
            (contains_cases e.1 (steps_by w run) s d)
        | false ↦ λ d. later d
      ] in
      both c

  -- ---- the steps of one worker, as a run grows at its end

  pub steps_by-snoc_same : (w : ℕ) (run : Run P) (s : Step P) → steps_by w (run ++ (w, s) ∷ []) ≡ steps_by w run ++ s ∷ []
  steps_by-snoc_same w [] s = rw (eq-eqb w w refl)
  steps_by-snoc_same w (e ∷ run) s =
      let X = steps_by w (run ++ (w, s) ∷ []) in
      let Y = steps_by w run in
      let ih : X ≡ Y ++ s ∷ [] = steps_by-snoc_same w run s in
      elim (eqb e.0 w) as (λ t. cond t (e.1 ∷ X) X ≡ cond t (e.1 ∷ Y) Y ++ s ∷ []) [ true ↦ ap (λ (l : List (Step P)). e.1 ∷ l) ih | false ↦ ih ]

  pub steps_by-snoc_other : (v w : ℕ) (run : Run P) (s : Step P) → v ≢ w → steps_by v (run ++ (w, s) ∷ []) ≡ steps_by v run
  steps_by-snoc_other v w [] s n = let m : w ≢ v = (λ e. n (sym e)) in rw (ne_eqb w v m)
  steps_by-snoc_other v w (e ∷ run) s n =
      let X = steps_by v (run ++ (w, s) ∷ []) in
      let Y = steps_by v run in
      let ih : X ≡ Y = steps_by-snoc_other v w run s n in
      elim (eqb e.0 v) as (λ t. cond t (e.1 ∷ X) X ≡ cond t (e.1 ∷ Y) Y) [ true ↦ ap (λ (l : List (Step P)). e.1 ∷ l) ih | false ↦ ih ]

  -- a step that a worker made stands in the run, and the other way round
  pub contains_by : (w : ℕ) (run : Run P) (s : Step P) → Contains (steps_by w run) s → Contains run (w, s)
  contains_by w [] s c = let l : c.0 < 0 = c.1 in absurd (omega arith)
  contains_by w (e ∷ run) s c =
      let later = λ (d : Contains (steps_by w run) s). contains_there e run (w, s) (contains_by w run s d) in
      elim (ℕ_discrete e.0 w) [
        | yes x ↦
            let M : Bool → Type 0 = λ t. Contains (cond t (e.1 ∷ steps_by w run) (steps_by w run)) s in
            ⊎_elim (λ here. (0, omega arith, λ i. (x i, here i))) later (contains_cases e.1 (steps_by w run) s (subst M (eq-eqb e.0 w x) c))
        | no n ↦
            let M : Bool → Type 0 = λ t. Contains (cond t (e.1 ∷ steps_by w run) (steps_by w run)) s in
            later (subst M (ne_eqb e.0 w n) c)
      ]

  pub contains_steps : (w : ℕ) (run : Run P) (s : Step P) → Contains run (w, s) → Contains (steps_by w run) s
  contains_steps w [] s c = let l : c.0 < 0 = c.1 in absurd (omega arith)
  contains_steps w (e ∷ run) s c =
      let M : Bool → Type 0 = λ t. Contains (cond t (e.1 ∷ steps_by w run) (steps_by w run)) s in
      ⊎_elim
      (λ here.
      let x : e.0 ≡ w = (λ i. (here i).0) in
      subst M (sym (eq-eqb e.0 w x)) (0, omega arith, λ i. (here i).1))
      (λ later.
      let d = contains_steps w run s later in
      elim (eqb e.0 w) as M [ true ↦ contains_there e.1 (steps_by w run) s d | false ↦ d ])
      (contains_cases e run (w, s) c)
