-- Lists of numbers in which none stands twice: their parts, and joined lists.
use Rattle.std.proofs.Common.{◌≡◌, ℕ, ◌+◌, ◌≤◌, List, [], ◌∷◌, ◌++◌, map, flat_map, Contains, sym, ◌∙◌, subst, inl, inr, arith}
use Rattle.std.proofs.lemmas.List.Elements.{Contains-append_left, Contains-append_right, Contains-append_cases}
use Rattle.std.specs.List.Sorted.{IsStrictlyIncreasing}
use Rattle.ix_text.specs.TokenNumbers.{AreDistinct}
use Rattle.ix_text.proofs.AscendingLists.{contains_first, contains_later, contains_cases, contains_none, contains_map, contained_from_map}
use Rattle.ix_text.proofs.PartsCounted.{RisesFrom, rises}

-- ---- parts

-- distinct lists that share no number are distinct together
pub distinct_append : (xs ys : List ℕ) → AreDistinct xs → AreDistinct ys → ((number : ℕ) → Contains xs number → ¬ (Contains ys number)) → AreDistinct (xs ++ ys)
distinct_append [] ys front back apart = back
distinct_append (x ∷ xs) ys front back apart = (
  λ has. elim (Contains-append_cases xs ys x has) [ inl before ↦ front.0 before | inr after ↦ apart x (contains_first x xs) after ],
  distinct_append xs ys front.1 back (λ number has. apart number (contains_later x xs number has)),
)

pub distinct_front : (xs ys : List ℕ) → AreDistinct (xs ++ ys) → AreDistinct xs
distinct_front [] ys distinct = tt
distinct_front (x ∷ xs) ys distinct = (λ has. distinct.0 (Contains-append_left xs ys x has), distinct_front xs ys distinct.1)

pub distinct_back : (xs ys : List ℕ) → AreDistinct (xs ++ ys) → AreDistinct ys
distinct_back [] ys distinct = distinct
distinct_back (x ∷ xs) ys distinct = distinct_back xs ys distinct.1

-- no number of the front stands in the back
pub distinct_apart : (xs ys : List ℕ) → AreDistinct (xs ++ ys) → (number : ℕ) → Contains xs number → ¬ (Contains ys number)
distinct_apart [] ys distinct number has again = contains_none number has
distinct_apart (x ∷ xs) ys distinct number has again =
    elim (contains_cases x xs number has) [
      | inl same ↦ distinct.0 (subst (Contains (xs ++ ys)) (sym same) (Contains-append_right xs ys number again))
      | inr later ↦ distinct_apart xs ys distinct.1 number later again
    ]

-- ---- one more number

pub distinct_push : (xs : List ℕ) (x : ℕ) → AreDistinct xs → ¬ (Contains xs x) → AreDistinct (xs ++ x ∷ [])
distinct_push xs x distinct new =
    distinct_append xs (x ∷ []) distinct (contains_none x, tt) (λ number has again.
    elim (contains_cases x [] number again) [ inl same ↦ new (subst (Contains xs) (sym same) has) | inr none ↦ contains_none number none ])

-- the number that comes next was not among those before
pub distinct_next : (xs : List ℕ) (x : ℕ) (ys : List ℕ) → AreDistinct (xs ++ x ∷ ys) → ¬ (Contains xs x)
distinct_next xs x ys distinct has = distinct_apart xs (x ∷ ys) distinct x has (contains_first x ys)

pub distinct_pushed : (xs : List ℕ) (x : ℕ) → AreDistinct (xs ++ x ∷ []) → AreDistinct xs × ¬ (Contains xs x)
distinct_pushed xs x distinct = (distinct_front xs (x ∷ []) distinct, distinct_next xs x [] distinct)

-- ---- numbers that rise

rises_above : (low : ℕ) (xs : List ℕ) (number : ℕ) → RisesFrom low xs → Contains xs number → low ≤ number
rises_above low [] number rising has = absurd (contains_none number has)
rises_above low (x ∷ xs) number rising has =
    elim (contains_cases x xs number has) [
      | inl same ↦ omega (arith, rising.0, same)
      | inr later ↦ omega (arith, rising.0, rises_above (x + 1) xs number rising.1 later)
    ]

shifted_distinct : (start low : ℕ) (xs : List ℕ) → RisesFrom low xs → AreDistinct (map (λ x. start + x) xs)
shifted_distinct start low [] rising = tt
shifted_distinct start low (x ∷ xs) rising = (
  λ has.
      let (y, later, same) = contained_from_map (λ x. start + x) xs (start + x) has in
      omega (arith, rises_above (x + 1) xs y rising.1 later, same),
  shifted_distinct start (x + 1) xs rising.1,
)

-- numbers that rise are distinct, counted from any start
pub rising_distinct : (start : ℕ) (xs : List ℕ) → IsStrictlyIncreasing xs → AreDistinct (map (λ x. start + x) xs)
rising_distinct start xs rising = shifted_distinct start 0 xs (rises 0 xs rising (λ some. omega arith))

-- ---- joined lists

module _ {A : Type 0} (f : A → List ℕ) where
  -- what is in a joined list is in the list of some element
  pub contained_from_flat_map : (xs : List A) (number : ℕ) → Contains (flat_map f xs) number → (x : A) × Contains xs x × Contains (f x) number
  contained_from_flat_map [] number has = absurd (contains_none number has)
  contained_from_flat_map (x ∷ xs) number has =
      elim (Contains-append_cases (f x) (flat_map f xs) number has) [
        | inl here ↦ (x, contains_first x xs, here)
        | inr later ↦ let (y, among, there) = contained_from_flat_map xs number later in (y, contains_later x xs y among, there)
      ]

  pub contains_flat_map : (xs : List A) (x : A) (number : ℕ) → Contains xs x → Contains (f x) number → Contains (flat_map f xs) number
  contains_flat_map [] x number among has = absurd (contains_none x among)
  contains_flat_map (y ∷ xs) x number among has =
      elim (contains_cases y xs x among) [
        | inl same ↦ Contains-append_left (f y) (flat_map f xs) number (subst (λ (z : A). Contains (f z) number) (sym same) has)
        | inr later ↦ Contains-append_right (f y) (flat_map f xs) number (contains_flat_map xs x number later has)
      ]

  -- in a distinct joined list a number comes from one element
  pub one_source : (xs : List A) (x y : A) (number : ℕ) → AreDistinct (flat_map f xs) → Contains xs x → Contains xs y → Contains (f x) number → Contains (f y) number → x ≡ y
  one_source [] x y number distinct at_x at_y in_x in_y = absurd (contains_none x at_x)
  one_source (z ∷ xs) x y number distinct at_x at_y in_x in_y =
      let apart = distinct_apart (f z) (flat_map f xs) distinct number in
      let first : (w : A) → z ≡ w → Contains (f w) number → Contains (f z) number = λ w same has. subst (λ (v : A). Contains (f v) number) (sym same) has in
      elim (contains_cases z xs x at_x) [
        | inl x_first ↦ elim (contains_cases z xs y at_y) [
          | inl y_first ↦ sym x_first ∙ y_first
          | inr y_later ↦ absurd (apart (first x x_first in_x) (contains_flat_map xs y number y_later in_y))
        ]
        | inr x_later ↦ elim (contains_cases z xs y at_y) [
          | inl y_first ↦ absurd (apart (first y y_first in_y) (contains_flat_map xs x number x_later in_x))
          | inr y_later ↦ one_source xs x y number (distinct_back (f z) (flat_map f xs) distinct) x_later y_later in_x in_y
        ]
      ]

  -- no two elements have one key
  abbrev pub KeysDiffer : {K : Type 0} → (A → K) → List A → Type 0
  KeysDiffer key [] = Unit {0}
  KeysDiffer key (x ∷ xs) = ((y : A) → Contains xs y → ¬ (key x ≡ key y)) × KeysDiffer key xs

  -- elements of different keys whose lists are distinct, and share a number only under one key
  pub distinct_flat_map : {K : Type 0} (key : A → K) (xs : List A) → KeysDiffer key xs → ((x : A) → Contains xs x → AreDistinct (f x))
      → ((x y : A) (number : ℕ) → Contains xs x → Contains xs y → Contains (f x) number → Contains (f y) number → key x ≡ key y) → AreDistinct (flat_map f xs)
  distinct_flat_map key [] differ each shared = tt
  distinct_flat_map key (x ∷ xs) differ each shared =
      distinct_append (f x) (flat_map f xs) (each x (contains_first x xs))
      (distinct_flat_map key xs differ.1 (λ y among. each y (contains_later x xs y among)) (λ y z number at_y at_z. shared y z number (contains_later x xs y at_y) (contains_later x xs z at_z)))
      (λ number here later.
      let (y, among, there) = contained_from_flat_map xs number later in
      differ.0 y among (shared x y number (contains_first x xs) (contains_later x xs y among) here there))

  -- keys that rise differ
  keys_differ_from : (key : A → ℕ) (low : ℕ) (xs : List A) → RisesFrom low (map key xs) → KeysDiffer key xs
  keys_differ_from key low [] rising = tt
  keys_differ_from key low (x ∷ xs) rising = (
    λ y among same. let above : key x + 1 ≤ key y = rises_above (key x + 1) (map key xs) (key y) rising.1 (contains_map key xs y among) in omega arith,
    keys_differ_from key (key x + 1) xs rising.1,
  )

  pub rising_keys_differ : (key : A → ℕ) (xs : List A) → IsStrictlyIncreasing (map key xs) → KeysDiffer key xs
  rising_keys_differ key xs rising = keys_differ_from key 0 xs (rises 0 (map key xs) rising (λ some. omega arith))
