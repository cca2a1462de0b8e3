-- Who holds what: a worker's own steps tell it.
use Rattle.std.proofs.Common.{◌≡◌, ◌≢◌, ℕ, ◌<◌, Bool, true, false, cond, eqb, List, [], ◌∷◌, length, refl, sym, ap, subst, ◌∙◌, ⊎_elim, eq-eqb, ne_eqb, ltb, ◌&&◌, arith}
use native.Mathlib.Decide.{ℕ_discrete}
use Rattle.std.specs.Prelude.{Option, Some, None, slice_get, slice_set}
use Rattle.std.specs.List.{range_with_len}
use Rattle.std.proofs.lemmas.Option.{none-some, same_Some, slice_get_within}
use Rattle.std.proofs.lemmas.Bool.Decides.{nat_tests}
use Rattle.std.proofs.lemmas.List.{length-map}
use Rattle.ix_board.specs.declared.step.Step.{Step}
use Rattle.ix_board.specs.declared.step.Step.TheVariants.{Claim, Deliver, GiveUp, Look}
use Rattle.ix_board.specs.Machine.{Place, open_place, held_by, done_by, given_up_by, Run, after, May, MayRun, places_after, steps_by, held_then, held_after, first_held, place_at_first, opening}
use Rattle.ix_board.proofs.SliceGets.{get-set_same, get-set_other, get-set_cases, get-map_range, length-range}
use Rattle.ix_board.proofs.Runs.{length-places_after}

-- h tells who holds which place
pub record Tells {P : Type 0} (b : List (Place P)) (h : ℕ → Option ℕ) : Type 0 where
  pub told : (w k : ℕ) → slice_get b k ≡ Some (held_by w) → h w ≡ Some k
  pub true_of : (w k : ℕ) → h w ≡ Some k → slice_get b k ≡ Some (held_by w)

-- h with the word of worker w changed
abbrev retold : (ℕ → Option ℕ) → ℕ → Option ℕ → ℕ → Option ℕ
retold h w o v = cond (eqb v w) o (h v)

retold_same : (h : ℕ → Option ℕ) (w : ℕ) (o : Option ℕ) (v : ℕ) → v ≡ w → retold h w o v ≡ o
retold_same h w o v e = rw (eq-eqb v w e)

retold_other : (h : ℕ → Option ℕ) (w : ℕ) (o : Option ℕ) (v : ℕ) → v ≢ w → retold h w o v ≡ h v
retold_other h w o v n = rw (ne_eqb v w n)

pub length-opening : (Q : Type 0) (count workers : ℕ) → length (opening {P = Q} count workers) ≡ count
length-opening Q count workers = length-map (range_with_len 0 count) (place_at_first {P = Q} workers) ∙ length-range 0 count

pub first_cases : (count workers w k : ℕ) (b : Bool) → (ltb w count && ltb w workers) ≡ b → cond b (Some w) None ≡ Some k → (w ≡ k) × (w < count) × (w < workers)
first_cases count workers w k true is e = (same_Some w k e, grind (arith, nat_tests), grind (arith, nat_tests))
first_cases count workers w k false is e = absurd (none-some k e)

module _ {P : Type 0} where
  held_same : (v w : ℕ) → ◌≡◌ {A = Place P} (held_by v) (held_by w) → v ≡ w
  held_same v w e = cc

  claim_tells : (b : List (Place P)) (h : ℕ → Option ℕ) (w j : ℕ) → Tells b h → May b w (Claim j) → Tells (after b w (Claim j)) (retold h w (Some j))
  claim_tells b h w j t may = record {
    told = λ v k e.
        ⊎_elim
        (λ here. retold_same h w (Some j) v (sym (held_same w v here.1)) ∙ ap Some (sym here.0))
        (λ there. let n : v ≢ w = (λ x. may.1 k (there.1 ∙ ap (λ (u : ℕ). Some (held_by u)) x)) in retold_other h w (Some j) v n ∙ t.told v k there.1)
        (get-set_cases b j k (held_by w) (held_by v) e);
    true_of = λ v k e.
        elim (ℕ_discrete v w) [
          | yes x ↦
              let jk : j ≡ k = same_Some j k (sym (retold_same h w (Some j) v x) ∙ e) in
              let M : ℕ → Type 0 = λ i. slice_get (slice_set b j (held_by w)) i ≡ Some (held_by v) in
              subst M jk (get-set_same b j (held_by w) open_place may.0 ∙ ap (λ (u : ℕ). Some (held_by u)) (sym x))
          | no n ↦
              let at = t.true_of v k (sym (retold_other h w (Some j) v n) ∙ e) in
              let apart : k ≢ j = (λ x. let o : ◌≡◌ {A = Place P} open_place (held_by v) = same_Some open_place (held_by v) (sym may.0 ∙ (ap (slice_get b) (sym x) ∙ at)) in cc) in
              get-set_other b j k (held_by w) apart ∙ at
        ];
  }

  -- the place that w held becomes q, which nobody holds
  leave_tells : (b : List (Place P)) (h : ℕ → Option ℕ) (w j : ℕ) (q : Place P) → ((v : ℕ) → q ≢ held_by v) → Tells b h → slice_get b j ≡ Some (held_by w) → Tells (slice_set b j q) (retold h w None)
  leave_tells b h w j q free t had = record {
    told = λ v k e.
        ⊎_elim
        (λ here. absurd (free v here.1))
        (λ there.
        let n : v ≢ w = (λ x.
        let a : h w ≡ Some j = t.told w j had in
        let c : h v ≡ Some k = t.told v k there.1 in
        there.0 (same_Some k j (sym c ∙ (ap h x ∙ a)))) in
        retold_other h w None v n ∙ t.told v k there.1)
        (get-set_cases b j k q (held_by v) e);
    true_of = λ v k e.
        elim (ℕ_discrete v w) [
          | yes x ↦ absurd (none-some k (sym (retold_same h w None v x) ∙ e))
          | no n ↦
              let at = t.true_of v k (sym (retold_other h w None v n) ∙ e) in
              let apart : k ≢ j = (λ x. n (held_same v w (same_Some (held_by v) (held_by w) (sym at ∙ (ap (slice_get b) x ∙ had))))) in
              get-set_other b j k q apart ∙ at
        ];
  }

  look_tells : (b : List (Place P)) (h : ℕ → Option ℕ) (w : ℕ) → Tells b h → Tells b (retold h w (h w))
  look_tells b h w t = record {
    told = λ v k e. elim (ℕ_discrete v w) [ yes x ↦ retold_same h w (h w) v x ∙ (ap h (sym x) ∙ t.told v k e) | no n ↦ retold_other h w (h w) v n ∙ t.told v k e ];
    true_of = λ v k e.
        elim (ℕ_discrete v w) [
          | yes x ↦ t.true_of v k (ap h x ∙ (sym (retold_same h w (h w) v x) ∙ e))
          | no n ↦ t.true_of v k (sym (retold_other h w (h w) v n) ∙ e)
        ];
  }

  step_tells : (b : List (Place P)) (h : ℕ → Option ℕ) (w : ℕ) (s : Step P) → Tells b h → May b w s → Tells (after b w s) (retold h w (held_then (h w) s))
  step_tells b h w (Claim j) t may = claim_tells b h w j t may
  step_tells b h w (Deliver j x) t may = leave_tells b h w j (done_by w x) (λ v e. cc) t may
  step_tells b h w (GiveUp j) t may = leave_tells b h w j (given_up_by w) (λ v e. cc) t may
  step_tells b h w (Look j) t may = look_tells b h w t

  abbrev told_after : (ℕ → Option ℕ) → Run P → ℕ → Option ℕ
  told_after h run v = held_after (h v) (steps_by v run)

  told_step : (h : ℕ → Option ℕ) (w : ℕ) (s : Step P) (run : Run P) (v : ℕ) → told_after (retold h w (held_then (h w) s)) run v ≡ told_after h ((w, s) ∷ run) v
  told_step h w s run v =
      elim (ℕ_discrete v w) [
        | yes e ↦
            let o = ap (λ (u : Option ℕ). held_after u (steps_by v run)) (retold_same h w (held_then (h w) s) v e) in
            let hw = ap (λ (u : ℕ). held_after (held_then (h u) s) (steps_by v run)) (sym e) in
            o ∙ (hw ∙ rw (eq-eqb w v (sym e)))
        | no n ↦
            let m : w ≢ v = (λ x. n (sym x)) in
            ap (λ (u : Option ℕ). held_after u (steps_by v run)) (retold_other h w (held_then (h w) s) v n) ∙ rw (ne_eqb w v m)
      ]

  -- what is told at the start goes on to be told
  pub tells_after : (b : List (Place P)) (h : ℕ → Option ℕ) (run : Run P) → Tells b h → MayRun b run → Tells (places_after b run) (told_after h run)
  tells_after b h [] t may = t
  tells_after b h (e ∷ run) t may =
      let r = tells_after (after b e.0 e.1) (retold h e.0 (held_then (h e.0) e.1)) run (step_tells b h e.0 e.1 t may.0) may.1 in
      record {
        told = λ w k at. sym (told_step h e.0 e.1 run w) ∙ r.told w k at;
        true_of = λ w k at. r.true_of w k (told_step h e.0 e.1 run w ∙ at);
      }

  -- ---- the start of a board

  pub opening-get : (count workers k : ℕ) → k < count → slice_get (opening {P = P} count workers) k ≡ Some (place_at_first workers k)
  opening-get count workers k h = get-map_range (place_at_first {P = P} workers) 0 count k h ∙ ap (λ (i : ℕ). Some (place_at_first {P = P} workers i)) (omega arith)

  pub place_in_run : (count workers k : ℕ) (run : Run P) (p : Place P) → slice_get (places_after (opening count workers) run) k ≡ Some p → k < count
  place_in_run count workers k run p e =
      let h : k < length (places_after (opening count workers) run) = slice_get_within (places_after (opening count workers) run) k p e in
      omega (arith, length-places_after (opening {P = P} count workers) run, length-opening P count workers)

  first_place_cases : (workers k w : ℕ) (b : Bool) → ltb k workers ≡ b → ◌≡◌ {A = Place P} (cond b (held_by k) open_place) (held_by w) → (k ≡ w) × (k < workers)
  first_place_cases workers k w true is e = let s : k ≡ w = cc in (s, grind (arith, nat_tests))
  first_place_cases workers k w false is e = absurd (cc)

  opening_tells : (count workers : ℕ) → Tells (opening {P = P} count workers) (first_held count workers)
  opening_tells count workers = record {
    told = λ w k e.
        let h : k < count = place_in_run count workers k [] (held_by w) e in
        let f : place_at_first {P = P} workers k ≡ held_by w = same_Some (place_at_first workers k) (held_by w) (sym (opening-get count workers k h) ∙ e) in
        let g = first_place_cases workers k w (ltb k workers) refl f in
        let c : (ltb w count && ltb w workers) ≡ true = let a : w < count = omega arith in let b : w < workers = omega arith in grind (arith, nat_tests) in
        rw c (ap Some (sym g.0));
    true_of = λ w k e.
        let g = first_cases count workers w k (ltb w count && ltb w workers) refl e in
        let h : k < count = omega arith in
        let c : ltb k workers ≡ true = let b : k < workers = omega arith in grind (arith, nat_tests) in
        opening-get count workers k h ∙ rw c (ap (λ (u : ℕ). Some (held_by u)) (sym g.0));
  }

  -- the place k is held by w exactly where w's own steps tell so
  pub holders : (count workers : ℕ) (run : Run P) → MayRun (opening count workers) run → Tells (places_after (opening count workers) run) (λ w. held_after (first_held count workers w) (steps_by w run))
  holders count workers run may = tells_after (opening count workers) (first_held count workers) run (opening_tells count workers) may

-- a worker whose first place there is begins with it
pub first_held_itself : (count workers w : ℕ) → w < count → w < workers → first_held count workers w ≡ Some w
first_held_itself count workers w a b =
    let c : (ltb w count && ltb w workers) ≡ true = grind (arith, nat_tests) in
    rw c
