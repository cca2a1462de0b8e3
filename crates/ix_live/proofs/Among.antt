-- Whether a number is among those that are removed.
use Rattle.std.proofs.Common.{◌≡◌, ℕ, ◌<◌, ◌≤◌, ◌==◌, inl, inr, List, length, get_or, ap, ◌∙◌, arith}
use Rattle.std.specs.Prelude.{Contains, Decides, Result, Ok, Err, MatchResult}
use Rattle.std.specs.List.{list_any}
use Rattle.std.specs.List.Sorted.{IsStrictlyIncreasing, IsBinarySearchResult}
use Rattle.std.specs.Ordering.{nat_cmp}
use Rattle.std.proofs.lemmas.Bool.{cases_lt}
use Rattle.std.proofs.lemmas.Bool.Decides.{Decides-eqb, Decides-not}
use Rattle.std.proofs.lemmas.List.{get_or_default}
use Rattle.std.proofs.lemmas.List.Kept.{AllPairs-from_increasing}
use Rattle.std.proofs.lemmas.List.Sorted.{searched}
use Rattle.std.proofs.lemmas.Cmp.{nat_eq_equiv}
use Rattle.std.proofs.lemmas.Map.Views.{Contains-from_any, list_any-from_Contains}
use Rattle.ix_live.specs.Findings.{is_kept}

pub not_falling : (xs : List ℕ) → IsStrictlyIncreasing xs → (i j : ℕ) → i ≤ j → j < length xs → get_or xs i 0 ≤ get_or xs j 0
not_falling xs up i j le within = elim (cases_lt i j) [
  | inl before ↦ let less : get_or xs i 0 < get_or xs j 0 = AllPairs-from_increasing xs up i j 0 before within in omega arith
  | inr same ↦ let e : i ≡ j = omega arith in omega (arith, ap (λ (k : ℕ). get_or xs k 0) e)
]

pub found_among : (xs : List ℕ) (x : ℕ) (r : Result ℕ ℕ) → IsBinarySearchResult (λ y. nat_cmp y x) xs r → IsStrictlyIncreasing xs → MatchResult r (λ i. Contains xs x) (λ i. ¬ (Contains xs x))
found_among xs x (Ok i) told up =
    let there = searched xs x (Ok i) told (not_falling xs up) in
    (i, there.0, get_or_default xs i x 0 there.0 ∙ there.1)
found_among xs x (Err i) told up = λ (k, within, is).
    let there = searched xs x (Err i) told (not_falling xs up) in
    let here : get_or xs k 0 ≡ x = get_or_default xs k 0 x within ∙ is in
    elim (cases_lt k i) [
      | inl before ↦ absurd (let less = there.1 k before in omega (arith, here))
      | inr after ↦ absurd (let less = there.2 k after within in omega (arith, here))
    ]

-- ---- kept

pub kept_decides : (removed : List ℕ) (n : ℕ) → Decides (is_kept removed n) (¬ (Contains removed n))
kept_decides removed n =
    Decides-not (list_any (λ other. n == other) removed) (
      Contains-from_any (λ x y is. (Decides-eqb x y).0 is) n removed,
      list_any-from_Contains nat_eq_equiv n removed,
    )
