-- Numbers of which none stands twice: told with one more, in another order, and in ascending order.
use Rattle.std.proofs.Common.{◌≡◌, ◌⊎◌, ℕ, zero, suc, ◌+◌, ◌<◌, ◌≤◌, ◌↔◌, Bool, true, false, cond, eqb, not, ◌||◌, IsTrue, List, [], ◌∷◌, ◌++◌, length, get_or, Contains, refl, sym, ap, subst, inl, inr, ⊎_elim, arith, eq-eqb, eqb-true}
use Rattle.std.specs.List.{sum_by}
use Rattle.std.specs.List.Sorted.{IsPermutation, IsNonDecreasing, IsStrictlyIncreasing}
use Rattle.std.proofs.lemmas.Bool.{cases_lt}
use Rattle.std.proofs.lemmas.List.{get_or_default}
use Rattle.std.proofs.lemmas.List.Elements.{Contains-get_or}
use Rattle.std.proofs.lemmas.List.Sorted.{sum_by-IsPermutation}
use Rattle.std.proofs.lemmas.List.Sums.{sum_by-cons}
use Rattle.ix_postings.specs.TokenMarks.{ShareNumber}
use Rattle.ix_text.specs.TokenNumbers.{AreDistinct}
use Rattle.ix_text.proofs.AscendingLists.{contains_cases, contains_first, contains_later, contains_none}
use Rattle.ix_text.proofs.DistinctNumbers.{distinct_append, distinct_apart as not_in_both, distinct_back, distinct_front, distinct_push, distinct_pushed}
use Rattle.ix_text.proofs.TokensTold.{has_number_from, has_number_of}

-- a number that was free leaves them distinct, and one that was not does not
pub distinct_more : (doubled free : Bool) (xs : List ℕ) (x : ℕ) → IsTrue doubled ↔ ¬ (AreDistinct xs) → IsTrue free ↔ ¬ (Contains xs x) → IsTrue (doubled || not free) ↔ ¬ (AreDistinct (xs ++ x ∷ []))
distinct_more true free xs x before was = (λ h d. before.0 refl (distinct_pushed xs x d).0, λ h. refl)
distinct_more false true xs x before was = (λ h. absurd (cc h), λ h. before.1 (λ d. h (distinct_push xs x d (was.0 refl))))
distinct_more false false xs x before was = (λ h d. absurd (cc (was.1 (distinct_pushed xs x d).1)), λ h. refl)

-- ---- it is one or the other
distinct_cons_cases : (b : Bool) (x : ℕ) (xs : List ℕ) → (b ≡ true → Contains xs x) → (Contains xs x → b ≡ true) → AreDistinct xs ⊎ ¬ (AreDistinct xs) → AreDistinct (x ∷ xs) ⊎ ¬ (AreDistinct (x ∷ xs))
distinct_cons_cases true x xs from of rest = inr (λ d. d.0 (from refl))
distinct_cons_cases false x xs from of rest = ⊎_elim (λ d. inl (λ h. absurd (cc (of h)), d)) (λ n. inr (λ d. n d.1)) rest

pub distinct_or_not : (xs : List ℕ) → AreDistinct xs ⊎ ¬ (AreDistinct xs)
distinct_or_not [] = inl tt
distinct_or_not (x ∷ xs) = distinct_cons_cases _ x xs (has_number_from x xs) (has_number_of x xs) (distinct_or_not xs)

-- told of two lists, and of what they share
settled : (xs : List ℕ) → IsTrue false ↔ ¬ (AreDistinct xs) → AreDistinct xs
settled xs told = ⊎_elim (λ d. d) (λ n. absurd (cc (told.1 n))) (distinct_or_not xs)

pub distinct_beside : (doubled there meets : Bool) (one other : List ℕ) → IsTrue doubled ↔ ¬ (AreDistinct one) → IsTrue there ↔ ¬ (AreDistinct other) → IsTrue meets ↔ ShareNumber one other → IsTrue (doubled || there || meets) ↔ ¬ (AreDistinct (one ++ other))
distinct_beside true there meets one other first second both = (λ h d. first.0 refl (distinct_front one other d), λ h. refl)
distinct_beside false true meets one other first second both = (λ h d. second.0 refl (distinct_back one other d), λ h. refl)
distinct_beside false false true one other first second both = (λ h d. let (number, has, has_too) = both.0 refl in not_in_both one other d number has has_too, λ h. refl)
distinct_beside false false false one other first second both = (
  λ h. absurd (cc h),
  λ h. absurd (h (distinct_append one other (settled one first) (settled other second) (λ number has again. absurd (cc (both.1 (number, has, again)))))),
)

-- ---- by how often each stands there
abbrev hit : ℕ → ℕ → ℕ
hit x y = cond (eqb y x) 1 0

abbrev times : ℕ → List ℕ → ℕ
times x xs = sum_by (hit x) xs

hit_at : (x y : ℕ) → y ≡ x → hit x y ≡ 1
hit_at x y e = ap (λ (b : Bool). let n : ℕ = cond b 1 0 in n) (eq-eqb y x e)

no_hit : (x y : ℕ) → eqb y x ≡ false → hit x y ≡ 0
no_hit x y e = ap (λ (b : Bool). let n : ℕ = cond b 1 0 in n) e

times_cons : (x y : ℕ) (ys : List ℕ) → times x (y ∷ ys) ≡ hit x y + times x ys
times_cons x y ys = sum_by-cons (hit x) y ys

times_contained : (x : ℕ) (xs : List ℕ) → Contains xs x → 1 ≤ times x xs
times_contained x [] h = absurd (contains_none x h)
times_contained x (y ∷ ys) h =
    ⊎_elim
    (λ same. omega (arith, hit_at x y same, times_cons x y ys))
    (λ later. omega (arith, times_contained x ys later, times_cons x y ys))
    (contains_cases y ys x h)

times_cases : (b : Bool) (x y : ℕ) (ys : List ℕ) → eqb y x ≡ b → (¬ (Contains ys x) → times x ys ≡ 0) → ¬ (Contains (y ∷ ys) x) → times x (y ∷ ys) ≡ 0
times_cases true x y ys e rest none = absurd (none (subst (λ (n : ℕ). Contains (y ∷ ys) n) (eqb-true y x e) (contains_first y ys)))
times_cases false x y ys e rest none =
    omega (arith, no_hit x y e, rest (λ h. none (contains_later y ys x h)), times_cons x y ys)

times_not_contained : (x : ℕ) (xs : List ℕ) → ¬ (Contains xs x) → times x xs ≡ 0
times_not_contained x [] none = refl
times_not_contained x (y ∷ ys) none = times_cases (eqb y x) x y ys refl (times_not_contained x ys) none

once_cases : (b : Bool) (x y : ℕ) (ys : List ℕ) → eqb y x ≡ b → ¬ (Contains ys y) → times x ys ≤ 1 → times x (y ∷ ys) ≤ 1
once_cases true x y ys e none rest =
    let same : y ≡ x = eqb-true y x e in
    omega (arith, hit_at x y same, times_not_contained x ys (subst (λ (n : ℕ). ¬ (Contains ys n)) same none), times_cons x y ys)
once_cases false x y ys e none rest =
    omega (arith, no_hit x y e, rest, times_cons x y ys)

once_each : (xs : List ℕ) → AreDistinct xs → (x : ℕ) → times x xs ≤ 1
once_each [] d x = omega arith
once_each (y ∷ ys) d x = once_cases (eqb y x) x y ys refl d.0 (once_each ys d.1 x)

distinct_from_times : (xs : List ℕ) → ((x : ℕ) → times x xs ≤ 1) → AreDistinct xs
distinct_from_times [] once = tt
distinct_from_times (y ∷ ys) once = (
  λ h. omega (arith, hit_at y y refl, once y, times_cons y y ys, times_contained y ys h),
  distinct_from_times ys (λ x. omega (arith, once x, times_cons x y ys)),
)

pub distinct_permutation : (xs ys : List ℕ) → IsPermutation xs ys → AreDistinct xs → AreDistinct ys
distinct_permutation xs ys p d = distinct_from_times ys (λ x. omega (arith, once_each xs d x, sum_by-IsPermutation (hit x) xs ys p))

-- ---- by their places
pub distinct_apart : (xs : List ℕ) (i j : ℕ) → AreDistinct xs → i < j → j < length xs → get_or xs i 0 ≡ get_or xs j 0 → ⊥
distinct_apart [] i j distinct before within same = omega arith
distinct_apart (x ∷ xs) i zero distinct before within same = omega arith
distinct_apart (x ∷ xs) zero (suc j) distinct before within same =
    let inside : j < length xs = omega arith in
    distinct.0 (subst (λ (n : ℕ). Contains xs n) (sym same) (Contains-get_or xs j 0 inside))
distinct_apart (x ∷ xs) (suc i) (suc j) distinct before within same = distinct_apart xs i j distinct.1 (omega arith) (omega arith) same

rising_tail : (x : ℕ) (xs : List ℕ) → IsStrictlyIncreasing (x ∷ xs) → IsStrictlyIncreasing xs
rising_tail x xs rising k h =
    let next : suc k + 1 ≡ suc (k + 1) = omega arith in
    subst (λ n. get_or xs k 0 < get_or (x ∷ xs) n 0) next (rising (suc k) (omega arith))

-- the first is below each later one
below_each : (x : ℕ) (xs : List ℕ) (k : ℕ) → IsStrictlyIncreasing (x ∷ xs) → k < length xs → x < get_or xs k 0
below_each x xs zero rising h = rising 0 (omega arith)
below_each x xs (suc k) rising h =
    let next : k + 1 ≡ suc k = omega arith in
    let step : get_or xs k 0 < get_or xs (suc k) 0 = subst (λ n. get_or xs k 0 < get_or xs n 0) next (rising_tail x xs rising k (omega arith)) in
    omega (arith, step, below_each x xs k rising (omega arith))

pub rising_distinct : (xs : List ℕ) → IsStrictlyIncreasing xs → AreDistinct xs
rising_distinct [] rising = tt
rising_distinct (x ∷ xs) rising = (
  λ (k, within, is). omega (arith, below_each x xs k rising within, get_or_default xs k 0 x within, is),
  rising_distinct xs (rising_tail x xs rising),
)

pub distinct_rising : (xs : List ℕ) → IsNonDecreasing xs → AreDistinct xs → IsStrictlyIncreasing xs
distinct_rising xs ordered distinct k within =
    ⊎_elim (λ less. less) (λ more. absurd (distinct_apart xs k (k + 1) distinct (omega arith) within (let up = ordered k (k + 1) 0 (omega arith) within in omega (arith, up, more)))) (cases_lt (get_or xs k 0) (get_or xs (k + 1) 0))
