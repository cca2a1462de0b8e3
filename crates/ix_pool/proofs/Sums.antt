-- Sums over lists, element by element.
use Rattle.std.proofs.Common.{◌≡◌, ℕ, zero, suc, ◌<◌, ◌≤◌, Bool, true, false, cond, List, [], ◌∷◌, ◌++◌, map, refl, sym, ap, subst, arith, All}
use Rattle.std.specs.Prelude.{Some, slice_get, flat_map, sum_by, Contains}
use Rattle.std.specs.List.{count_by}
use Rattle.std.proofs.lemmas.Option.{get_or_from_slice_get}
use Rattle.std.proofs.lemmas.List.Sums.{sum_by-cons, sum_by-append}
use Rattle.std.proofs.lemmas.List.Concat.{flat_map-cons}
use Rattle.ix_board.proofs.SliceGets.{get-within, contains_there}

-- what holds of each element by its place holds of all
pub all_from_get : {A : Type 0} (Q : A → Type 0) (xs : List A) → ((i : ℕ) (x : A) → slice_get xs i ≡ Some x → Q x) → All Q xs
all_from_get Q xs each k d h = let t = get-within xs k h in subst Q (sym (get_or_from_slice_get xs k t.0 d t.1)) (each k t.0 t.1)

module _ {A : Type 0} where
  pub sum_same : (f g : A → ℕ) (xs : List A) → ((i : ℕ) (x : A) → slice_get xs i ≡ Some x → f x ≡ g x) → sum_by f xs ≡ sum_by g xs
  sum_same f g [] each = refl
  sum_same f g (x ∷ xs) each =
      let here : f x ≡ g x = each 0 x refl in
      let rest : sum_by f xs ≡ sum_by g xs = sum_same f g xs (λ i y e. each (suc i) y e) in
      omega (arith, sum_by-cons f x xs, sum_by-cons g x xs)

  pub sum_le : (f g : A → ℕ) (xs : List A) → ((i : ℕ) (x : A) → slice_get xs i ≡ Some x → f x ≤ g x) → sum_by f xs ≤ sum_by g xs
  sum_le f g [] each = omega arith
  sum_le f g (x ∷ xs) each =
      let here : f x ≤ g x = each 0 x refl in
      let rest : sum_by f xs ≤ sum_by g xs = sum_le f g xs (λ i y e. each (suc i) y e) in
      omega (arith, sum_by-cons f x xs, sum_by-cons g x xs)

  pub sum_zero : (f : A → ℕ) (xs : List A) → ((i : ℕ) (x : A) → slice_get xs i ≡ Some x → f x ≡ 0) → sum_by f xs ≡ 0
  sum_zero f [] each = refl
  sum_zero f (x ∷ xs) each =
      let here : f x ≡ 0 = each 0 x refl in
      let rest : sum_by f xs ≡ 0 = sum_zero f xs (λ i y e. each (suc i) y e) in
      omega (arith, sum_by-cons f x xs)

  pub sum_map : {B : Type 0} (f : B → ℕ) (h : A → B) (xs : List A) → sum_by f (map h xs) ≡ sum_by (λ x. f (h x)) xs
  sum_map f h [] = refl
  sum_map f h (x ∷ xs) = let rest : sum_by f (map h xs) ≡ sum_by (λ y. f (h y)) xs = sum_map f h xs in omega (arith, sum_by-cons f (h x) (map h xs), sum_by-cons (λ (y : A). f (h y)) x xs)

  pub count_flat : {B : Type 0} (p : B → Bool) (h : A → List B) (xs : List A) → count_by p (flat_map h xs) ≡ sum_by (λ x. count_by p (h x)) xs
  count_flat p h [] = refl
  count_flat {B} p h (x ∷ xs) =
      let rest : count_by p (flat_map h xs) ≡ sum_by (λ y. count_by p (h y)) xs = count_flat p h xs in
      let split : count_by p (flat_map h (x ∷ xs)) ≡ count_by p (h x ++ flat_map h xs) = ap (count_by p) (flat_map-cons h x xs) in
      omega (arith, sum_by-append (λ (y : B). cond (p y) 1 0) (h x) (flat_map h xs), sum_by-cons (λ (y : A). count_by p (h y)) x xs)

  -- a sum that is positive has a positive part
  pub sum_some : (f : A → ℕ) (xs : List A) → 0 < sum_by f xs → (i : ℕ) × (x : A) × (slice_get xs i ≡ Some x) × (0 < f x)
  sum_some f [] h = absurd (omega arith)
  sum_some f (x ∷ xs) h = pick (f x) refl (λ p. sum_some f xs p)
    where
      pick : (n : ℕ) → f x ≡ n → (0 < sum_by f xs → (i : ℕ) × (y : A) × (slice_get xs i ≡ Some y) × (0 < f y)) → (i : ℕ) × (y : A) × (slice_get (x ∷ xs) i ≡ Some y) × (0 < f y)
      pick zero e rest = let t = rest (omega (arith, sum_by-cons f x xs)) in (suc t.0, t.1, t.2, t.3)
      pick (suc n) e rest = (0, x, refl, omega arith)

  -- what is counted is there
  pub count_some : (p : A → Bool) (xs : List A) → 0 < count_by p xs → (x : A) × Contains xs x × (p x ≡ true)
  count_some p [] h = absurd (omega arith)
  count_some p (x ∷ xs) h = pick (p x) refl (λ q. count_some p xs q)
    where
      pick : (b : Bool) → p x ≡ b → (0 < count_by p xs → (y : A) × Contains xs y × (p y ≡ true)) → (y : A) × Contains (x ∷ xs) y × (p y ≡ true)
      pick true e rest = (x, (0, omega arith, refl), e)
      pick false e rest =
          let none : ◌≡◌ {A = ℕ} (cond (p x) 1 0) 0 = rw e refl in
          let t = rest (omega (arith, sum_by-cons (λ (y : A). cond (p y) 1 0) x xs)) in
          (t.0, contains_there x xs t.0 t.1, t.2)
