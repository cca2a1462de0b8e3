-- Texts that ascend, one at a time.
use Rattle.std.proofs.Common.{◌≡◌, ℕ, ◌+◌, ◌-◌, ◌<◌, ◌≤◌, List, [], ◌∷◌, ◌++◌, length, map, get_or, Ordering, Less, Equal, Greater, Option, Some, None, Bor, slice_get, IsTrue, ◌↔◌, MatchOption, Bool, true, is_lt, refl, sym, ap, ◌∙◌, ⊎_elim, arith, length-append, subst}
use Rattle.std.proofs.lemmas.Bool.{cases_lt}
use Rattle.std.proofs.lemmas.Cmp.{nat_list_cmp_total}
use Rattle.std.proofs.lemmas.List.{get_or_append_left, get_or-append_right, get_or-map, length-map}
use Rattle.std.proofs.lemmas.Option.{slice_get-get_or}
use Rattle.std.specs.Option.{option_copied}
use Rattle.std.proofs.Math.Seq.{get_or-append_seam}
use Rattle.std.proofs.lemmas.Map.Keys.{Less-from_sorted, sorted_from_all_adjacent}
use Rattle.std.specs.Cmp.Lexicographic.{slice_cmp}
use Rattle.std.specs.Ordering.{nat_cmp}
use Rattle.ix_text.specs.ByteOrder.{IsAscending}

-- a front of ascending texts ascends
pub ascending_front : (xs ys : List (List ℕ)) → IsAscending (xs ++ ys) → IsAscending xs
ascending_front xs ys a =
    sorted_from_all_adjacent nat_list_cmp_total xs []
    (λ k up.
    let below = get_or_append_left xs ys [] k (omega arith) in
    let above = get_or_append_left xs ys [] (k + 1) up in
    let less = Less-from_sorted (slice_cmp nat_cmp) (xs ++ ys) k (k + 1) [] a (omega arith) (omega (arith, length-append xs ys)) in
    cc (below, above, less))

-- the last text
abbrev pub last_of : List (List ℕ) → List ℕ
last_of xs = get_or xs (length xs - 1) []

-- what stands above the last text may follow
pub ascending_push : (xs : List (List ℕ)) (y : List ℕ) → IsAscending xs → (0 < length xs → slice_cmp nat_cmp (last_of xs) y ≡ Less) → IsAscending (xs ++ y ∷ [])
ascending_push xs y a above =
    sorted_from_all_adjacent nat_list_cmp_total (xs ++ y ∷ []) []
    (λ k up. ⊎_elim (λ h. inside k h) (λ h. at_end k (omega (arith, up, length-append xs (y ∷ []))) h) (cases_lt (k + 1) (length xs)))
  where
    inside : (k : ℕ) → k + 1 < length xs → slice_cmp nat_cmp (get_or (xs ++ y ∷ []) k []) (get_or (xs ++ y ∷ []) (k + 1) []) ≡ Less
    inside k h =
        let low = get_or_append_left xs (y ∷ []) [] k (omega arith) in
        let high = get_or_append_left xs (y ∷ []) [] (k + 1) h in
        let less = Less-from_sorted (slice_cmp nat_cmp) xs k (k + 1) [] a (omega arith) h in
        cc (low, high, less)

    at_end : (k : ℕ) → k < length xs → length xs ≤ k + 1 → slice_cmp nat_cmp (get_or (xs ++ y ∷ []) k []) (get_or (xs ++ y ∷ []) (k + 1) []) ≡ Less
    at_end k h end =
        let low = get_or_append_left xs (y ∷ []) [] k h in
        let high = get_or-append_right xs (y ∷ []) (length xs) (k + 1) [] refl end in
        let zero_is : k + 1 - length xs ≡ 0 = omega arith in
        let place : length xs - 1 ≡ k = omega arith in
        let less = above (omega arith) in
        let first : get_or (xs ++ y ∷ []) (k + 1) [] ≡ y = high ∙ ap (λ n. get_or (y ∷ []) n []) zero_is in
        let last : last_of xs ≡ get_or xs k [] = ap (λ n. get_or xs n []) place in
        cc (low, first, last, less)

-- and nothing else may
pub ascending_last : (xs : List (List ℕ)) (y : List ℕ) → IsAscending (xs ++ y ∷ []) → 0 < length xs → slice_cmp nat_cmp (last_of xs) y ≡ Less
ascending_last xs y a some =
    let low = get_or_append_left xs (y ∷ []) [] (length xs - 1) (omega arith) in
    let first : get_or (xs ++ y ∷ []) (length xs) [] ≡ y = get_or-append_seam xs y [] [] in
    let less = Less-from_sorted (slice_cmp nat_cmp) (xs ++ y ∷ []) (length xs - 1) (length xs) [] a (omega arith) (omega (arith, length-append xs (y ∷ []))) in
    cc (low, first, less)

pub ascending_none : IsAscending []
ascending_none = sorted_from_all_adjacent nat_list_cmp_total [] [] (λ k up. absurd (omega arith))

pub ascending_one : (x : List ℕ) → IsAscending (x ∷ [])
ascending_one x = sorted_from_all_adjacent nat_list_cmp_total (x ∷ []) [] (λ k up. absurd (omega arith))

-- two texts
pub pair_from_less : (x y : List ℕ) → slice_cmp nat_cmp x y ≡ Less → IsAscending (x ∷ y ∷ [])
pair_from_less x y less = ascending_push (x ∷ []) y (ascending_one x) (λ _. less)

pub less_from_pair : (x y : List ℕ) → IsAscending (x ∷ y ∷ []) → slice_cmp nat_cmp x y ≡ Less
less_from_pair x y a = ascending_last (x ∷ []) y a (omega arith)

-- by the test
less_from_lt : (o : Ordering) → is_lt o ≡ true → o ≡ Less
less_from_lt Less t = refl
less_from_lt Equal t = absurd (cc)
less_from_lt Greater t = absurd (cc)

pub pair_test : (x y : List ℕ) (r : Bool) → r ≡ is_lt (slice_cmp nat_cmp x y) → IsTrue r ↔ IsAscending (x ∷ y ∷ [])
pair_test x y r is = (λ t. pair_from_less x y (less_from_lt (slice_cmp nat_cmp x y) (sym is ∙ t)), λ a. is ∙ ap is_lt (less_from_pair x y a))

-- what may follow the last of some values with texts
abbrev pub MayFollow : {X : Type 0} → (X → List ℕ) → Option X → List ℕ → Type 0
MayFollow bytes before term = MatchOption before (Unit {0}) (λ b. IsAscending (bytes b ∷ term ∷ []))

module _ {X : Type 0} (bytes : X → List ℕ) (term : List ℕ) where
  last_text : (x : X) (xs : List X) → last_of (map bytes (x ∷ xs)) ≡ bytes (get_or (x ∷ xs) (length (x ∷ xs) - 1) x)
  last_text x xs =
      ap (λ n. get_or (map bytes (x ∷ xs)) (n - 1) []) (length-map (x ∷ xs) bytes) ∙ get_or-map bytes (x ∷ xs) (length (x ∷ xs) - 1) x [] (omega arith)

  last_value : (x : X) (xs : List X) → slice_get (x ∷ xs) (length (x ∷ xs) - 1) ≡ Some (get_or (x ∷ xs) (length (x ∷ xs) - 1) x)
  last_value x xs = slice_get-get_or (x ∷ xs) (length (x ∷ xs) - 1) x (omega arith)

  pub follows : (xs : List X) (before : Option X) → before ≡ slice_get xs (length xs - 1) → IsAscending (map bytes xs) → MayFollow bytes before term → IsAscending (map bytes xs ++ term ∷ [])
  follows [] before is a may = ascending_one term
  follows (x ∷ xs) before is a may =
      let above : MayFollow bytes (Some (get_or (x ∷ xs) (length (x ∷ xs) - 1) x)) term = subst (λ o. MayFollow bytes o term) (is ∙ last_value x xs) may in
      ascending_push (map bytes (x ∷ xs)) term a
      (λ _. ap (λ text. slice_cmp nat_cmp text term) (last_text x xs) ∙ less_from_pair (bytes (get_or (x ∷ xs) (length (x ∷ xs) - 1) x)) term above)

  pub followed : (xs : List X) (before : Option X) → before ≡ slice_get xs (length xs - 1) → IsAscending (map bytes xs ++ term ∷ []) → MayFollow bytes before term
  followed [] before is a = subst (λ o. MayFollow bytes o term) (sym is) tt
  followed (x ∷ xs) before is a =
      subst (λ o. MayFollow bytes o term) (sym (is ∙ last_value x xs))
      (pair_from_less (bytes (get_or (x ∷ xs) (length (x ∷ xs) - 1) x)) term
      (ap (λ text. slice_cmp nat_cmp text term) (sym (last_text x xs)) ∙ ascending_last (map bytes (x ∷ xs)) term a (omega (arith, length-map (x ∷ xs) bytes))))

  -- the same of a borrowed value
  abbrev pub MayFollowBorrowed : Option (Bor X) → Type 0
  MayFollowBorrowed before = MatchOption before (Unit {0}) (λ b. IsAscending (bytes b.now ∷ term ∷ []))

  pub from_borrowed : (before : Option (Bor X)) → MayFollowBorrowed before → MayFollow bytes (option_copied before) term
  from_borrowed None may = may
  from_borrowed (Some b) may = may

  pub to_borrowed : (before : Option (Bor X)) → MayFollow bytes (option_copied before) term → MayFollowBorrowed before
  to_borrowed None may = may
  to_borrowed (Some b) may = may
