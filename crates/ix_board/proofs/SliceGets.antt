-- Lists read by `slice_get`.
use Rattle.std.proofs.Common.{◌≡◌, ◌≢◌, ◌⊎◌, ℕ, zero, suc, ◌+◌, ◌<◌, List, [], ◌∷◌, map, length, get_or, set, refl, ap, inl, inr, ⊎_elim, arith}
use Rattle.std.specs.Prelude.{Some, slice_get}
use Rattle.std.specs.List.{range_with_len, Contains}
use Rattle.std.proofs.lemmas.Option.{none-some, same_Some}

module _ {A : Type 0} where
  pub get-set_same : (l : List A) (i : ℕ) (a b : A) → slice_get l i ≡ Some b → slice_get (set l i a) i ≡ Some a
  get-set_same [] i a b e = absurd (none-some b e)
  get-set_same (x ∷ xs) zero a b e = refl
  get-set_same (x ∷ xs) (suc i) a b e = get-set_same xs i a b e

  pub get-set_other : (l : List A) (i j : ℕ) (a : A) → j ≢ i → slice_get (set l i a) j ≡ slice_get l j
  get-set_other [] i j a n = refl
  get-set_other (x ∷ xs) zero zero a n = absurd (n refl)
  get-set_other (x ∷ xs) zero (suc j) a n = refl
  get-set_other (x ∷ xs) (suc i) zero a n = refl
  get-set_other (x ∷ xs) (suc i) (suc j) a n = get-set_other xs i j a (λ e. n (ap suc e))

  pub get-set_cases : (l : List A) (i j : ℕ) (a b : A) → slice_get (set l i a) j ≡ Some b → ((j ≡ i) × (a ≡ b)) ⊎ ((j ≢ i) × (slice_get l j ≡ Some b))
  get-set_cases [] i j a b e = absurd (none-some b e)
  get-set_cases (x ∷ xs) zero zero a b e = inl (refl, same_Some a b e)
  get-set_cases (x ∷ xs) zero (suc j) a b e = inr ((λ h. omega arith), e)
  get-set_cases (x ∷ xs) (suc i) zero a b e = inr ((λ h. omega arith), e)
  get-set_cases (x ∷ xs) (suc i) (suc j) a b e = ⊎_elim (λ t. inl (ap suc t.0, t.1)) (λ t. let n = t.0 in inr ((λ h. n (omega arith)), t.1)) (get-set_cases xs i j a b e)

  pub get-within : (l : List A) (i : ℕ) → i < length l → (a : A) × (slice_get l i ≡ Some a)
  get-within [] i h = absurd (omega arith)
  get-within (x ∷ xs) zero h = (x, refl)
  get-within (x ∷ xs) (suc i) h = get-within xs i (omega arith)

-- the element at i of f of the numbers from a on
pub get-map_range : {A : Type 0} (f : ℕ → A) (a n i : ℕ) → i < n → slice_get (map f (range_with_len a n)) i ≡ Some (f (a + i))
get-map_range f a zero i h = absurd (omega arith)
get-map_range f a (suc n) zero h = ap (λ (k : ℕ). Some (f k)) (omega arith)
get-map_range {A} f a (suc n) (suc i) h =
    let e : (a + 1) + i ≡ a + suc i = omega arith in
    let P : ℕ → Type 0 = λ k. slice_get (map f (range_with_len (a + 1) n)) i ≡ Some (f k) in
    Rattle.std.proofs.Common.subst P e (get-map_range f (a + 1) n i (omega arith))

pub length-range : (a n : ℕ) → length (range_with_len a n) ≡ n
length-range a zero = refl
length-range a (suc n) = ap suc (length-range (a + 1) n)

pub contains_there : {A : Type 0} (y : A) (ys : List A) (x : A) → Contains ys x → Contains (y ∷ ys) x
contains_there y ys x c = let h : c.0 < length ys = c.1 in (suc c.0, omega arith, c.2)

contains_at : {A : Type 0} (y : A) (ys : List A) (x : A) (k : ℕ) → k < length (y ∷ ys) → get_or (y ∷ ys) k x ≡ x → (y ≡ x) ⊎ Contains ys x
contains_at y ys x zero h e = inl e
contains_at y ys x (suc k) h e = inr (k, omega arith, e)

pub contains_cases : {A : Type 0} (y : A) (ys : List A) (x : A) → Contains (y ∷ ys) x → (y ≡ x) ⊎ Contains ys x
contains_cases y ys x c = contains_at y ys x c.0 c.1 c.2
