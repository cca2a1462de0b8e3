-- Ascending numbers: what stands behind a number is above it, and one more above all.
use Rattle.std.proofs.Common.{◌≡◌, ℕ, suc, ◌+◌, ◌<◌, inl, inr, List, [], ◌∷◌, ◌++◌, length, get_or, arith, length-append}
use Rattle.std.proofs.lemmas.Bool.{cases_lt}
use Rattle.std.proofs.lemmas.List.{get_or_default, get_or_append_left, get_or_push}
use Rattle.std.specs.Prelude.{Contains, AllPairs}
use Rattle.std.specs.List.Sorted.{IsStrictlyIncreasing}

-- each number is below all that stand behind it
abbrev pub Ascend : List ℕ → Type 0
Ascend numbers = AllPairs (λ a b. a < b) numbers

pub below_head : (x n : ℕ) (xs : List ℕ) → Ascend (x ∷ xs) → Contains xs n → x < n
below_head x n xs pairs (k, within, is) =
    let less : x < get_or xs k n = pairs 0 (suc k) n (omega arith) (omega arith) in omega (arith, is)

pub tail_ascends : (x : ℕ) (xs : List ℕ) → Ascend (x ∷ xs) → Ascend xs
tail_ascends x xs pairs i j d before within = pairs (suc i) (suc j) d (omega arith) (omega arith)

pub none_in_nil : {X : Type 0} (x : X) → ¬ (Contains [] x)
none_in_nil x (k, within, is) = absurd (omega arith)

pub increasing_nil : IsStrictlyIncreasing []
increasing_nil k below = absurd (omega arith)

-- one more number above all
pub increasing_push : (xs : List ℕ) (y : ℕ) → IsStrictlyIncreasing xs → ((n : ℕ) → Contains xs n → n < y) → IsStrictlyIncreasing (xs ++ y ∷ [])
increasing_push xs y up low k below =
    let size : length (xs ++ y ∷ []) ≡ length xs + 1 = length-append xs (y ∷ []) in
    let first : get_or (xs ++ y ∷ []) k 0 ≡ get_or xs k 0 = get_or_append_left xs (y ∷ []) 0 k (omega arith) in
    elim (cases_lt (k + 1) (length xs)) [
      | inl inside ↦
          let second : get_or (xs ++ y ∷ []) (k + 1) 0 ≡ get_or xs (k + 1) 0 = get_or_append_left xs (y ∷ []) 0 (k + 1) inside in
          let less = up k inside in omega (arith, first, second)
      | inr last ↦
          let second : get_or (xs ++ y ∷ []) (k + 1) 0 ≡ y = get_or_push xs y 0 (k + 1) (omega arith) in
          let less : get_or xs k 0 < y = low (get_or xs k 0) (k, omega arith, get_or_default xs k (get_or xs k 0) 0 (omega arith)) in omega (arith, first, second)
    ]
