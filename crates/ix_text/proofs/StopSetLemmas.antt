-- Stop sets: the empty one, one of ready texts, and what a binary search finds in one.
use Rattle.std.proofs.Common.{◌≡◌, ℕ, ◌+◌, ◌<◌, ◌↔◌, Bool, true, false, cond, bytes_eq, List, [], ◌∷◌, map, length, get_or, Result, Ok, Err, is_ok, Ordering, Less, Equal, Greater, IsTrue, All, Contains, refl, sym, ap, ap₂, inl, inr, ◌∙◌, arith, String, string_bytes}
use Rattle.std.proofs.lemmas.List.{get_or-map, length-map}
use Rattle.std.proofs.lemmas.List.Elements.{All-nil, All-cons, All-head, All-tail}
use Rattle.std.proofs.lemmas.List.Kept.{Contains-dedup, Contains-from_dedup, IsStrictlySortedBy-dedup}
use Rattle.std.proofs.lemmas.List.Sorted.{searchable_from_sorted, IsPermutation-map, IsPermutation-sym, Contains-permutation}
use Rattle.std.proofs.lemmas.Bool.{cases_lt}
use Rattle.std.proofs.lemmas.Cmp.{nat_list_cmp_total, nat_list_eq_equiv, tied_itself}
use Rattle.std.proofs.lemmas.Map.Keys.{Less-from_sorted}
use Rattle.std.proofs.lemmas.Str.{IsUtf8-string_bytes}
use Rattle.std.specs.Cmp.Lexicographic.{slice_cmp, bytes_decides}
use Rattle.std.specs.List.{HoldsAt, dedup, dedup_from}
use Rattle.std.specs.List.Sorted.{IsStrictlySortedBy, IsSearchInRange, IsBinarySearchResult, IsPartitionPoint, IsPermutation, IsSorted, IsSortedBy}
use Rattle.std.specs.Ordering.{nat_cmp, is_lt, is_eq, ordering_reverse}
use Rattle.std.proofs.lemmas.Map.Text.{is_eq-slice_cmp}
use Rattle.ix_text.specs.ByteOrder.{IsAscending}
use Rattle.ix_text.specs.StopSets.{IsStopSet, HasTermSize}
use Rattle.ix_text.specs.Terms.{IsTerm}

pub is_stop_set-nil : IsStopSet []
unfolding IsStrictlySortedBy
is_stop_set-nil = record { few = omega arith; ascending = tt; terms = All-nil IsTerm }

-- the bytes of a `String` are text
pub terms_from_sizes : {Z : Type 0} (texts : List (String Z)) → All HasTermSize (map string_bytes texts) → All IsTerm (map string_bytes texts)
terms_from_sizes [] sizes = All-nil IsTerm
terms_from_sizes (text ∷ texts) sizes =
    let size = All-head HasTermSize (string_bytes text) (map string_bytes texts) sizes in
    All-cons IsTerm (string_bytes text) (map string_bytes texts)
    (record { text = IsUtf8-string_bytes text; some_byte = size.some_byte; short = size.short })
    (terms_from_sizes texts (All-tail HasTermSize (string_bytes text) (map string_bytes texts) sizes))

-- two texts tie just where they are one
pub same_from_Equal : (xs ys : List ℕ) → slice_cmp nat_cmp xs ys ≡ Equal → xs ≡ ys
same_from_Equal xs ys tie = (bytes_decides xs ys).0 (sym (is_eq-slice_cmp xs ys) ∙ ap is_eq tie)

Equal-itself : (xs ys : List ℕ) → xs ≡ ys → slice_cmp nat_cmp xs ys ≡ Equal
Equal-itself xs ys same = rw same (tied_itself nat_list_cmp_total ys)

not_less_back : (o : Ordering) (p : Ordering) → p ≡ ordering_reverse o → o ≡ Less → is_lt p ≡ false
not_less_back o p back less = ap is_lt (back ∙ ap ordering_reverse less)

module _ {X : Type 0} (bytes : X → List ℕ) (xs : List X) (term : List ℕ) where
  -- an ascending list is sorted, as a binary search asks
  sorted_by_bytes : IsAscending (map bytes xs) → IsSortedBy (λ x y. is_lt (slice_cmp nat_cmp (bytes x) (bytes y))) xs
  sorted_by_bytes up k d low high =
      let before : slice_cmp nat_cmp (bytes (get_or xs k d)) (bytes (get_or xs (k + 1) d)) ≡ Less =
      let less = Less-from_sorted (slice_cmp nat_cmp) (map bytes xs) k (k + 1) (bytes d) up (omega arith) (rw length-map high) in
      let first = get_or-map bytes xs k d (bytes d) (omega arith) in
      let second = get_or-map bytes xs (k + 1) d (bytes d) high in
      rw (← first, ← second) less
      in not_less_back _ _ (nat_list_cmp_total.antisymm (bytes (get_or xs (k + 1) d)) (bytes (get_or xs k d))) before

  found : (i : ℕ) → i < length xs → HoldsAt (λ y. slice_cmp nat_cmp (bytes y) term ≡ Equal) xs i → Contains (map bytes xs) term
  found i low tie = (i, rw length-map low, at xs low tie)
    where
      at : (ys : List X) → i < length ys → HoldsAt (λ y. slice_cmp nat_cmp (bytes y) term ≡ Equal) ys i → get_or (map bytes ys) i term ≡ term
      at [] low tie = absurd (omega arith)
      at (y ∷ ys) low tie = get_or-map bytes (y ∷ ys) i y term low ∙ same_from_Equal _ _ (tie y)

  held : (ys : List X) → Contains (map bytes ys) term → (k : ℕ) × (k < length ys) × HoldsAt (λ y. slice_cmp nat_cmp (bytes y) term ≡ Equal) ys k
  held ys (k, low, is) =
      let low' : k < length ys = rw length-map at low in
      (k, low', λ d. Equal-itself _ _ (sym (get_or-map bytes ys k d term low') ∙ is))

  apart : (ys : List X) (i : ℕ) → IsPartitionPoint (λ y. slice_cmp nat_cmp (bytes y) term ≡ Less) (λ y. slice_cmp nat_cmp (bytes y) term ≡ Greater) ys i → ¬ (Contains (map bytes ys) term)
  apart [] i parted (k, low, is) = omega arith
  apart (y ∷ ys) i parted has =
      let (k, low, tie) = held (y ∷ ys) has in
      elim (cases_lt k i) [
        | inl below ↦ cc (parted.0 k y (omega arith) below, tie y)
        | inr above ↦ cc (parted.1 k y above low, tie y)
      ]

  -- what a binary search answers
  pub searched : IsAscending (map bytes xs) → (r : Result ℕ ℕ) → IsSearchInRange r (length xs) → IsBinarySearchResult (λ y. slice_cmp nat_cmp (bytes y) term) xs r → IsTrue (is_ok r) ↔ Contains (map bytes xs) term
  searched up (Ok i) low tie = (λ _. found i low tie, λ _. refl)
  searched up (Err i) low parted =
      (λ e. absurd cc, λ has. absurd (apart xs i (parted (searchable_from_sorted nat_list_cmp_total bytes xs term (sorted_by_bytes up))) has))

-- ---- a list of texts put in order, with each that stands more than once but once

module _ {X : Type 0} (bytes : X → List ℕ) where
  abbrev same_bytes : X → X → Bool
  same_bytes x y = bytes_eq (bytes x) (bytes y)

  map-cond : (b : Bool) (xs ys : List X) → map bytes (cond b xs ys) ≡ cond b (map bytes xs) (map bytes ys)
  map-cond true xs ys = refl
  map-cond false xs ys = refl

  map-dedup_from : (x : X) (xs : List X) → map bytes (dedup_from same_bytes x xs) ≡ dedup_from bytes_eq (bytes x) (map bytes xs)
  map-dedup_from x [] = refl
  map-dedup_from x (y ∷ ys) =
      map-cond (same_bytes y x) (dedup_from same_bytes x ys) (x ∷ dedup_from same_bytes y ys)
      ∙ ap₂ (λ kept new. cond (same_bytes y x) kept (bytes x ∷ new)) (map-dedup_from x ys) (map-dedup_from y ys)

  map-dedup : (xs : List X) → map bytes (dedup same_bytes xs) ≡ dedup bytes_eq (map bytes xs)
  map-dedup [] = refl
  map-dedup (x ∷ xs) = map-dedup_from x xs

  sorted-map : (xs : List X) → IsSorted (λ x y. slice_cmp nat_cmp (bytes x) (bytes y)) xs → IsSorted (slice_cmp nat_cmp) (map bytes xs)
  sorted-map [] sorted k d low high = absurd (omega arith)
  sorted-map (x ∷ xs) sorted k d low high =
      let within : k + 1 < length (x ∷ xs) = rw length-map at high in
      let first = get_or-map bytes (x ∷ xs) k x d (omega arith) in
      let second = get_or-map bytes (x ∷ xs) (k + 1) x d within in
      rw (first, second) (sorted k x low within)

  pub ascending_from_sort : (sorted kept : List X) → kept ≡ dedup same_bytes sorted → IsSorted (λ x y. slice_cmp nat_cmp (bytes x) (bytes y)) sorted → IsAscending (map bytes kept)
  ascending_from_sort sorted kept is up =
      rw (is, map-dedup) (IsStrictlySortedBy-dedup nat_list_cmp_total (λ x y. sym (is_eq-slice_cmp x y)) (map bytes sorted) (sorted-map sorted up))

  pub same_from_sort : (given sorted kept : List X) → kept ≡ dedup same_bytes sorted → IsPermutation given sorted → (term : List ℕ) → Contains (map bytes kept) term ↔ Contains (map bytes given) term
  same_from_sort given sorted kept is moved term =
      let moved_bytes = IsPermutation-map bytes given sorted moved in
      let kept_bytes : map bytes kept ≡ dedup bytes_eq (map bytes sorted) = ap (map bytes) is ∙ map-dedup sorted in (
        λ has.
            Contains-permutation (map bytes sorted) (map bytes given) term (IsPermutation-sym (map bytes given) (map bytes sorted) moved_bytes)
            (Contains-from_dedup bytes_eq (map bytes sorted) term (rw kept_bytes at has)),
        λ has.
            rw kept_bytes
            (Contains-dedup nat_list_eq_equiv (λ x y. (bytes_decides x y).0) (map bytes sorted) term (Contains-permutation (map bytes given) (map bytes sorted) term moved_bytes has)),
      )
