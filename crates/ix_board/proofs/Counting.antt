-- As many members as workers, with numbers that are all apart: then each worker is among them.
use Rattle.std.proofs.Common.{◌≡◌, ◌≢◌, ℕ, zero, suc, ◌+◌, ◌<◌, ◌≤◌, cond, eqb, ltb, List, [], ◌∷◌, ◌++◌, length, refl, sym, ap, ◌∙◌, eq-eqb, ne_eqb, arith}
use native.Mathlib.Decide.{ℕ_discrete}
use Rattle.std.specs.Prelude.{Some, slice_get}
use Rattle.std.proofs.lemmas.Option.{none-some, same_Some}
use Rattle.std.proofs.lemmas.Bool.Decides.{nat_tests}
use Rattle.ix_board.specs.declared.rule.Member.{Member}
use Rattle.ix_board.specs.Crews.{times_in}

pub if_same : (a b : ℕ) → a ≡ b → ◌≡◌ {A = ℕ} (cond (eqb a b) 1 0) 1
if_same a b e = rw (eq-eqb a b e)

pub if_other : (a b : ℕ) → a ≢ b → ◌≡◌ {A = ℕ} (cond (eqb a b) 1 0) 0
if_other a b n = rw (ne_eqb a b n)

one_more : (a n : ℕ) → ◌≡◌ {A = ℕ} (cond (ltb a (suc n)) 1 0) (cond (ltb a n) 1 0 + cond (eqb a n) 1 0)
one_more a n = grind (arith, nat_tests)

none_below_zero : (a : ℕ) → ◌≡◌ {A = ℕ} (cond (ltb a 0) 1 0) 0
none_below_zero a = grind (arith, nat_tests)

if_below : (a n : ℕ) → a < n → ◌≡◌ {A = ℕ} (cond (ltb a n) 1 0) 1
if_below a n h = grind (arith, nat_tests)

module _ {P : Type 0} where
  -- the member with the number k is there
  abbrev pub Has : List (Member P) → ℕ → Type 0
  Has ms k = (i : ℕ) × (m : Member P) × (slice_get ms i ≡ Some m) × (m.number ≡ k)

  pub found_in : (ms : List (Member P)) (k : ℕ) → 0 < times_in k ms → Has ms k
  found_in [] k h = absurd (omega arith)
  found_in (m ∷ ms) k h =
      elim (ℕ_discrete m.number k) [
        | yes e ↦ (0, m, refl, e)
        | no n ↦
            let r = found_in ms k (omega (arith, if_other m.number k n)) in
            (suc r.0, r.1, r.2, r.3)
      ]

  pub not_in : (ms : List (Member P)) (k i : ℕ) (m : Member P) → times_in k ms ≡ 0 → slice_get ms i ≡ Some m → m.number ≢ k
  not_in [] k i m z e n = none-some m e
  not_in (x ∷ xs) k zero m z e n =
      let o : x.number ≡ k = ap (λ (y : Member P). y.number) (same_Some x m e) ∙ n in
      omega (arith, if_same x.number k o)
  not_in (x ∷ xs) k (suc i) m z e n = not_in xs k i m (omega arith) e n

  pub times_in-append : (ms ns : List (Member P)) (k : ℕ) → times_in k (ms ++ ns) ≡ times_in k ms + times_in k ns
  times_in-append [] ns k = omega arith
  times_in-append (m ∷ ms) ns k = omega (arith, times_in-append ms ns k)

  -- how many members have a number below n
  below : ℕ → List (Member P) → ℕ
  below n [] = 0
  below n (m ∷ ms) = cond (ltb m.number n) 1 0 + below n ms

  below-suc : (n : ℕ) (ms : List (Member P)) → below (suc n) ms ≡ below n ms + times_in n ms
  unfolding below
  below-suc n [] = refl
  below-suc n (m ∷ ms) = omega (arith, one_more m.number n, below-suc n ms)

  below-zero : (ms : List (Member P)) → below 0 ms ≡ 0
  unfolding below
  below-zero [] = refl
  below-zero (m ∷ ms) = omega (arith, none_below_zero m.number, below-zero ms)

  below_all : (n : ℕ) (ms : List (Member P)) → ((i : ℕ) (m : Member P) → slice_get ms i ≡ Some m → m.number < n) → below n ms ≡ length ms
  unfolding below
  below_all n [] each = refl
  below_all n (m ∷ ms) each =
      let h : m.number < n = each 0 m refl in
      omega (arith, if_below m.number n h, below_all n ms (λ i d e. each (suc i) d e))

  below_le : (n : ℕ) (ms : List (Member P)) → ((k : ℕ) → times_in k ms ≤ 1) → below n ms ≤ n
  below_le zero ms once = omega (arith, below-zero ms)
  below_le (suc n) ms once = omega (arith, below-suc n ms, below_le n ms once, once n)

  below_less : (n w : ℕ) (ms : List (Member P)) → ((k : ℕ) → times_in k ms ≤ 1) → w < n → times_in w ms ≡ 0 → below n ms < n
  below_less zero w ms once h z = absurd (omega arith)
  below_less (suc n) w ms once h z =
      elim (ℕ_discrete w n) [
        | yes e ↦ let y : times_in n ms ≡ 0 = ap (λ (k : ℕ). times_in k ms) (sym e) ∙ z in omega (arith, below-suc n ms, below_le n ms once)
        | no ne ↦ omega (arith, below-suc n ms, below_less n w ms once (omega arith) z, once n)
      ]

  pub all_there : (workers : ℕ) (ms : List (Member P)) → length ms ≡ workers → ((k : ℕ) → times_in k ms ≤ 1) → ((i : ℕ) (m : Member P) → slice_get ms i ≡ Some m → m.number < workers)
      → (w : ℕ) → w < workers → Has ms w
  all_there workers ms len once each w h =
      elim (ℕ_discrete (times_in w ms) 0) [
        | yes z ↦ absurd (omega (arith, below_less workers w ms once h z, below_all workers ms each))
        | no n ↦ found_in ms w (omega arith)
      ]
