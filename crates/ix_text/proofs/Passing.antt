-- The places of the elements of a list that pass.
use Rattle.std.proofs.Common.{◌≡◌, ℕ, zero, suc, ◌+◌, ◌<◌, ◌≤◌, ◌⊎◌, List, [], ◌∷◌, slice_get, slice_index, flat_map, Some, Contains, refl, sym, subst, arith, inl, inr}
use Rattle.std.proofs.lemmas.List.Elements.{Contains-append_cases, Contains-append_left, Contains-append_right}
use Rattle.std.proofs.lemmas.Option.{none-some}
use Rattle.std.specs.List.Sorted.{IsStrictlyIncreasing}
use Rattle.ix_text.proofs.AscendingLists.{contains_cases, contains_first, contains_later, contains_none}
use Rattle.ix_text.proofs.PartsLemmas.{injected}

increasing_more : (x : ℕ) (xs : List ℕ) → IsStrictlyIncreasing xs → ((n : ℕ) → Contains xs n → x < n) → IsStrictlyIncreasing (x ∷ xs)
increasing_more x [] rising above k within = absurd (omega (arith, within))
increasing_more x (y ∷ ys) rising above zero within = above y (contains_first y ys)
increasing_more x (y ∷ ys) rising above (suc k) within =
    let next : suc (k + 1) ≡ suc k + 1 = omega arith in
    subst (λ m. slice_index (y ∷ ys) k < slice_index (x ∷ y ∷ ys) m) next (rising k (omega (arith, within)))

module _ {X : Type 0} (Passes : X → Type 0) where
  -- at the place stands an element that passes
  pub record PassesAt (xs : List X) (place : ℕ) : Type 0 where
    pub element : X
    pub there : slice_get xs place ≡ Some element
    pub passes : Passes element

  pub passes_later : (x : X) (xs : List X) (k : ℕ) → PassesAt xs k → PassesAt (x ∷ xs) (suc k)
  passes_later x xs k is = record { element = is.element; there = is.there; passes = is.passes }

  pub passes_before : (x : X) (xs : List X) (k : ℕ) → PassesAt (x ∷ xs) (suc k) → PassesAt xs k
  passes_before x xs k is = record { element = is.element; there = is.there; passes = is.passes }

  pub passes_first : (x : X) (xs : List X) → PassesAt (x ∷ xs) zero → Passes x
  passes_first x xs is = subst Passes (sym (injected is.there)) is.passes

  -- the places, counted from a number on
  pub record HasPlaces (xs : List X) (from : ℕ) : Type 0 where
    pub numbers : List ℕ
    pub low : (n : ℕ) → Contains numbers n → from ≤ n
    pub rising : IsStrictlyIncreasing numbers
    pub inside : (n : ℕ) → Contains numbers n → (k : ℕ) × ((n ≡ from + k) × PassesAt xs k)
    pub all : (k : ℕ) → PassesAt xs k → Contains numbers (from + k)

  with_first : (x : X) (xs : List X) (from : ℕ) (numbers : List ℕ) → ((k : ℕ) → PassesAt (x ∷ xs) (suc k) → Contains numbers (from + suc k)) → (k : ℕ) → PassesAt (x ∷ xs) k → Contains (from ∷ numbers) (from + k)
  with_first x xs from numbers later zero is = let same : from ≡ from + zero = omega arith in subst (Contains (from ∷ numbers)) same (contains_first from numbers)
  with_first x xs from numbers later (suc k) is = contains_later from numbers (from + suc k) (later k is)

  without_first : (x : X) (xs : List X) (from : ℕ) (numbers : List ℕ) → (Passes x → ⊥) → ((k : ℕ) → PassesAt (x ∷ xs) (suc k) → Contains numbers (from + suc k)) → (k : ℕ) → PassesAt (x ∷ xs) k → Contains numbers (from + k)
  without_first x xs from numbers lacks later zero is = absurd (lacks (passes_first x xs is))
  without_first x xs from numbers lacks later (suc k) is = later k is

  pub places : ((x : X) → Passes x ⊎ (Passes x → ⊥)) → (xs : List X) (from : ℕ) → HasPlaces xs from
  places known [] from = record {
    numbers = [];
    low = λ n has. absurd (contains_none n has);
    rising = λ k within. absurd (omega (arith, within));
    inside = λ n has. absurd (contains_none n has);
    all = λ k is. absurd (none-some is.element is.there);
  }
  places known (x ∷ xs) from =
      let rest = places known xs (from + 1) in
      let later_inside : (n : ℕ) → Contains rest.numbers n → (k : ℕ) × ((n ≡ from + k) × PassesAt (x ∷ xs) k) =
      λ n has. let (k, at) = rest.inside n has in (suc k, (omega (arith, at.0), passes_later x xs k at.1)) in
      let later_all : (k : ℕ) → PassesAt (x ∷ xs) (suc k) → Contains rest.numbers (from + suc k) =
      λ k is. let shift : from + 1 + k ≡ from + suc k = omega arith in subst (Contains rest.numbers) shift (rest.all k (passes_before x xs k is)) in
      elim (known x) [
        | inl passes ↦ record {
          numbers = from ∷ rest.numbers;
          low = λ n has. elim (contains_cases from rest.numbers n has) [ inl same ↦ omega (arith, same) | inr later ↦ omega (arith, rest.low n later) ];
          rising = increasing_more from rest.numbers rest.rising (λ n has. omega (arith, rest.low n has));
          inside = λ n has. elim (contains_cases from rest.numbers n has) [
            | inl same ↦ (zero, (omega (arith, same), record { element = x; there = refl; passes = passes }))
            | inr later ↦ later_inside n later
          ];
          all = with_first x xs from rest.numbers later_all;
        }
        | inr lacks ↦ record {
          numbers = rest.numbers;
          low = λ n has. omega (arith, rest.low n has);
          rising = rest.rising;
          inside = later_inside;
          all = without_first x xs from rest.numbers lacks later_all;
        }
      ]

-- what the elements of a list make stands at the place of one of them
pub flat_there : {X Y : Type 0} (f : X → List Y) (xs : List X) (y : Y) → Contains (flat_map f xs) y → (k : ℕ) × PassesAt (λ x. Contains (f x) y) xs k
flat_there f [] y has = absurd (contains_none y has)
flat_there {X} f (x ∷ xs) y has =
    elim (Contains-append_cases (f x) (flat_map f xs) y has) [
      | inl here ↦ (zero, record { element = x; there = refl; passes = here })
      | inr later ↦ let (k, is) = flat_there f xs y later in (suc k, passes_later (λ (z : X). Contains (f z) y) x xs k is)
    ]

pub flat_all : {X Y : Type 0} (f : X → List Y) (xs : List X) (y : Y) (k : ℕ) → PassesAt (λ x. Contains (f x) y) xs k → Contains (flat_map f xs) y
flat_all f [] y k is = absurd (none-some is.element is.there)
flat_all {X} f (x ∷ xs) y zero is = Contains-append_left (f x) (flat_map f xs) y (passes_first (λ (z : X). Contains (f z) y) x xs is)
flat_all {X} f (x ∷ xs) y (suc k) is = Contains-append_right (f x) (flat_map f xs) y (flat_all f xs y k (passes_before (λ (z : X). Contains (f z) y) x xs k is))
