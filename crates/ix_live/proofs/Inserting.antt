-- A number is put into an ascending list.
use Rattle.std.proofs.Common.{◌≡◌, ℕ, ◌+◌, ◌-◌, ◌<◌, ◌≤◌, ◌⊎◌, inl, inr, List, length, get_or, sym, ap, ◌∙◌, subst, arith}
use Rattle.std.specs.Prelude.{◌↔◌, Contains, Err, insert}
use Rattle.std.specs.List.Sorted.{IsBinarySearchResult, IsStrictlyIncreasing}
use Rattle.std.specs.Ordering.{nat_cmp}
use Rattle.std.proofs.lemmas.Bool.{cases_lt}
use Rattle.std.proofs.lemmas.List.Edits.{get_or-insert_above, get_or-insert_at, get_or-insert_below, length-insert}
use Rattle.std.proofs.lemmas.List.Sorted.{searched}
use Rattle.ix_live.proofs.Among.{not_falling}

module _ (xs : List ℕ) (i y : ℕ) (within : i ≤ length xs) where
  inserted_has : (m : ℕ) → Contains xs m → Contains (insert xs i y) m
  inserted_has m (k, inside, is) = elim (cases_lt k i) [
    | inl below ↦ (k, omega (arith, inside, length-insert xs i y within), get_or-insert_below xs i y m k below within ∙ is)
    | inr above ↦ (k + 1, omega (arith, inside, length-insert xs i y within), get_or-insert_above xs i y m k above within ∙ is)
  ]

  inserted_itself : Contains (insert xs i y) y
  inserted_itself = (i, omega (arith, within, length-insert xs i y within), get_or-insert_at xs i y y within)

  has_inserted : (m : ℕ) → Contains (insert xs i y) m → Contains xs m ⊎ (y ≡ m)
  has_inserted m (k, inside, is) = elim (cases_lt k i) [
    | inl below ↦ inl (k, omega (arith, below, within), sym (get_or-insert_below xs i y m k below within) ∙ is)
    | inr above ↦ elim (cases_lt i k) [
      | inl behind ↦
          let j = k - 1 in
          let place : k ≡ j + 1 = omega (arith, behind) in
          let there : get_or (insert xs i y) (j + 1) m ≡ m = ap (λ (n : ℕ). get_or (insert xs i y) n m) (sym place) ∙ is in
          inl (j, omega (arith, behind, inside, length-insert xs i y within), sym (get_or-insert_above xs i y m j (omega (arith, behind)) within) ∙ there)
      | inr same ↦
          let place : k ≡ i = omega (arith, above, same) in
          inr (sym (get_or-insert_at xs i y m within) ∙ ap (λ (n : ℕ). get_or (insert xs i y) n m) (sym place) ∙ is)
    ]
  ]

  pub in_inserted : (m : ℕ) → Contains (insert xs i y) m ↔ (Contains xs m ⊎ (y ≡ m))
  in_inserted m = (has_inserted m, λ h. elim h [ inl was ↦ inserted_has m was | inr same ↦ subst (λ (n : ℕ). Contains (insert xs i y) n) same inserted_itself ])

  pub insert_increasing : IsStrictlyIncreasing xs → ((k : ℕ) → k < i → get_or xs k 0 < y) → ((k : ℕ) → i ≤ k → k < length xs → y < get_or xs k 0) → IsStrictlyIncreasing (insert xs i y)
  insert_increasing up low high k below =
      let size = length-insert xs i y within in
      elim (cases_lt (k + 1) i) [
        | inl before ↦
            let one = get_or-insert_below xs i y 0 k (omega (arith, before)) within in
            let two = get_or-insert_below xs i y 0 (k + 1) before within in
            let less = up k (omega (arith, before, within)) in omega (arith, one, two, less)
        | inr after ↦ elim (cases_lt k i) [
          | inl last ↦
              let place : k + 1 ≡ i = omega (arith, after, last) in
              let one = get_or-insert_below xs i y 0 k last within in
              let two = ap (λ (n : ℕ). get_or (insert xs i y) n 0) place ∙ get_or-insert_at xs i y 0 within in
              let less = low k last in omega (arith, one, two, less)
          | inr behind ↦ elim (cases_lt i k) [
            | inl far ↦
                let j = k - 1 in
                let place : k ≡ j + 1 = omega (arith, far) in
                let one = ap (λ (n : ℕ). get_or (insert xs i y) n 0) place ∙ get_or-insert_above xs i y 0 j (omega (arith, far)) within in
                let two = get_or-insert_above xs i y 0 k (omega (arith, far)) within in
                let less : get_or xs j 0 < get_or xs (j + 1) 0 = up j (omega (arith, far, below, size)) in
                omega (arith, one, two, less, ap (λ (n : ℕ). get_or xs n 0) place)
            | inr here ↦
                let place : k ≡ i = omega (arith, behind, here) in
                let one = ap (λ (n : ℕ). get_or (insert xs i y) n 0) place ∙ get_or-insert_at xs i y 0 within in
                let two = get_or-insert_above xs i y 0 k (omega (arith, place)) within in
                let less = high k (omega (arith, place)) (omega (arith, below, size)) in omega (arith, one, two, less)
          ]
        ]
      ]

-- where the search did not find it
pub searched_apart : (xs : List ℕ) (x i : ℕ) → IsBinarySearchResult (λ y. nat_cmp y x) xs (Err i) → IsStrictlyIncreasing xs
    → (i ≤ length xs) × ((k : ℕ) → k < i → get_or xs k 0 < x) × ((k : ℕ) → i ≤ k → k < length xs → x < get_or xs k 0)
searched_apart xs x i told up = searched xs x (Err i) told (not_falling xs up)
