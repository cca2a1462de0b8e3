-- What one step makes of one place.
use Rattle.std.proofs.Common.{◌≡◌, ◌≢◌, ◌⊎◌, ℕ, ◌+◌, ◌<◌, cond, List, refl, sym, ap, subst, ◌∙◌, inl, inr, eq-eqb, ne_eqb, arith}
use native.Mathlib.Decide.{ℕ_discrete}
use Rattle.std.specs.Prelude.{Some, slice_get, slice_set}
use Rattle.std.proofs.lemmas.Option.{same_Some}
use Rattle.ix_board.specs.declared.step.Step.{Step}
use Rattle.ix_board.specs.declared.step.Step.TheVariants.{Claim, Deliver, GiveUp, Look}
use Rattle.ix_board.specs.Machine.{Place, open_place, held_by, done_by, given_up_by, after, May}
use Rattle.ix_board.specs.Laws.{claims, finishes, times_held, times_finished}
use Rattle.ix_board.proofs.SliceGets.{get-set_same, get-set_other}

-- a step of worker w turned the place k from p into q
pub record Turns {P : Type 0} (k w : ℕ) (s : Step P) (p q : Place P) : Type 0 where
  pub held_count : cond (claims k s) 1 0 + times_held p ≡ times_held q
  pub finish_count : cond (finishes k s) 1 0 + times_finished p ≡ times_finished q
  pub stays_done : (v : ℕ) (x : P) → p ≡ done_by v x → q ≡ done_by v x
  pub comes_done : (v : ℕ) (x : P) → q ≡ done_by v x → (p ≡ done_by v x) ⊎ (◌≡◌ {A = ℕ × Step P} (w, s) (v, Deliver k x))
  pub delivers : (x : P) → s ≡ Deliver k x → q ≡ done_by w x
  pub seen : (s ≡ Look k) ⊎ (s ≡ Claim k) → q ≢ open_place

abbrev pub place_in : {P : Type 0} → Step P → ℕ
place_in (Claim k) = k
place_in (Deliver k x) = k
place_in (GiveUp k) = k
place_in (Look k) = k

module _ {P : Type 0} where
  pub held_once : (p : Place P) → p ≢ open_place → times_held p ≡ 1
  held_once open_place n = absurd (n refl)
  held_once (held_by w) n = refl
  held_once (done_by w x) n = refl
  held_once (given_up_by w) n = refl

  pub not_open : (p : Place P) → 0 < times_held p → p ≢ open_place
  not_open p h e = let z : times_held p ≡ 0 = ap times_held e in omega arith

  claim_turns : (k w : ℕ) → Turns {P = P} k w (Claim k) open_place (held_by w)
  claim_turns k w = record {
    held_count = rw (eq-eqb k k refl);
    finish_count = refl;
    stays_done = λ v x e. cc;
    comes_done = λ v x e. cc;
    delivers = λ x e. cc;
    seen = λ _ e. cc;
  }

  deliver_turns : (k w : ℕ) (x : P) → Turns k w (Deliver k x) (held_by w) (done_by w x)
  deliver_turns k w x = record {
    held_count = refl;
    finish_count = rw (eq-eqb k k refl);
    stays_done = λ v y e. cc;
    comes_done = λ v y e. let a : w ≡ v = cc in let b : x ≡ y = cc in inr (λ i. (a i, Deliver k (b i)));
    delivers = λ y e. let b : x ≡ y = cc in ap (done_by w) b;
    seen = λ _ e. cc;
  }

  give_up_turns : (k w : ℕ) → Turns {P = P} k w (GiveUp k) (held_by w) (given_up_by w)
  give_up_turns k w = record {
    held_count = refl;
    finish_count = rw (eq-eqb k k refl);
    stays_done = λ v y e. cc;
    comes_done = λ v y e. cc;
    delivers = λ y e. cc;
    seen = λ _ e. cc;
  }

  look_turns : (k w j : ℕ) (p : Place P) → (k ≡ j → p ≢ open_place) → Turns k w (Look j) p p
  look_turns k w j p n = record {
    held_count = omega arith;
    finish_count = omega arith;
    stays_done = λ v y e. e;
    comes_done = λ v y e. inl e;
    delivers = λ y e. cc;
    seen = λ h. Rattle.std.proofs.Common.⊎_elim (λ e. n (cc)) (λ e. absurd (cc)) h;
  }

  -- a step at another place
  other_turns : (k w : ℕ) (s : Step P) (p : Place P) → k ≢ place_in s → Turns k w s p p
  other_turns k w (Claim j) p n = record {
    held_count = let m : j ≢ k = (λ e. n (sym e)) in rw (ne_eqb j k m) (omega arith);
    finish_count = omega arith;
    stays_done = λ v y e. e;
    comes_done = λ v y e. inl e;
    delivers = λ y e. cc;
    seen = λ h. Rattle.std.proofs.Common.⊎_elim (λ e. absurd (cc)) (λ e. absurd (let b : k ≡ j = cc in n b)) h;
  }
  other_turns k w (Deliver j x) p n = record {
    held_count = omega arith;
    finish_count = let m : j ≢ k = (λ e. n (sym e)) in rw (ne_eqb j k m) (omega arith);
    stays_done = λ v y e. e;
    comes_done = λ v y e. inl e;
    delivers = λ y e. absurd (let b : k ≡ j = cc in n b);
    seen = λ h. Rattle.std.proofs.Common.⊎_elim (λ e. absurd (cc)) (λ e. absurd (cc)) h;
  }
  other_turns k w (GiveUp j) p n = record {
    held_count = omega arith;
    finish_count = let m : j ≢ k = (λ e. n (sym e)) in rw (ne_eqb j k m) (omega arith);
    stays_done = λ v y e. e;
    comes_done = λ v y e. inl e;
    delivers = λ y e. cc;
    seen = λ h. Rattle.std.proofs.Common.⊎_elim (λ e. absurd (cc)) (λ e. absurd (cc)) h;
  }
  other_turns k w (Look j) p n = look_turns k w j p (λ e. absurd (n e))

  abbrev Becomes : List (Place P) → ℕ → ℕ → Step P → Place P → Type 0
  Becomes b k w s p = (q : Place P) × (slice_get (after b w s) k ≡ Some q) × Turns k w s p q

  -- the place j is written, and the step is at j
  written : (b : List (Place P)) (j w : ℕ) (s : Step P) (old new : Place P) → after b w s ≡ slice_set b j new → place_in s ≡ j → slice_get b j ≡ Some old → Turns j w s old new
      → (k : ℕ) (p : Place P) → slice_get b k ≡ Some p → Becomes b k w s p
  written b j w s old new is at e t k p f =
      elim (ℕ_discrete k j) [
        | yes same ↦
            let P' : ℕ → Type 0 = λ i. slice_get b i ≡ Some p → Becomes b i w s p in
            subst P' (sym same) (λ f'.
            let pe : old ≡ p = same_Some old p (sym e ∙ f') in
            (new, rw is (get-set_same b j new old e), subst (λ (r : Place P). Turns j w s r new) pe t)) f
        | no ne ↦
            let m : k ≢ place_in s = λ x. ne (x ∙ at) in
            (p, rw is (get-set_other b j k new ne ∙ f), other_turns k w s p m)
      ]

  -- what a possible step makes of a place
  pub turns : (b : List (Place P)) (w : ℕ) (s : Step P) (k : ℕ) (p : Place P) → May b w s → slice_get b k ≡ Some p → Becomes b k w s p
  turns b w (Claim j) k p may e = written b j w (Claim j) open_place (held_by w) refl refl may.0 (claim_turns j w) k p e
  turns b w (Deliver j x) k p may e = written b j w (Deliver j x) (held_by w) (done_by w x) refl refl may (deliver_turns j w x) k p e
  turns b w (GiveUp j) k p may e = written b j w (GiveUp j) (held_by w) (given_up_by w) refl refl may (give_up_turns j w) k p e
  turns b w (Look j) k p may e =
      let n : k ≡ j → p ≢ open_place = λ same o. may.2 (same_Some may.0 p (sym may.1 ∙ (ap (slice_get b) (sym same) ∙ e)) ∙ o) in
      (p, e, look_turns k w j p n)
