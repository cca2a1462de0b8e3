-- An ascending list is told by its elements, in whichever order.
use Rattle.std.proofs.Common.{◌≡◌, zero, suc, ◌↔◌, ◌⊎◌, inl, inr, List, [], ◌∷◌, map, Contains, Ordering, Less, refl, sym, ap, ap₂, subst, arith}
use Rattle.std.specs.Cmp.{IsTotalOrder}
use Rattle.std.specs.List.{AllByRecursion}
use Rattle.std.specs.List.Sorted.{IsStrictlySortedBy}
use Rattle.std.proofs.lemmas.Cmp.{tied_itself}

module _ {K : Type 0} where
  pub contains_first : (x : K) (xs : List K) → Contains (x ∷ xs) x
  contains_first x xs = (0, omega arith, refl)

  pub contains_later : (x : K) (xs : List K) (y : K) → Contains xs y → Contains (x ∷ xs) y
  contains_later x xs y (k, low, is) = (suc k, omega arith, is)

  pub contains_cases : (x : K) (xs : List K) (y : K) → Contains (x ∷ xs) y → (x ≡ y) ⊎ Contains xs y
  contains_cases x xs y (zero, low, is) = inl is
  contains_cases x xs y (suc k, low, is) = inr (k, omega arith, is)

  pub contains_none : (y : K) → ¬ (Contains [] y)
  contains_none y (k, low, is) = omega arith

  -- the elements of a mapped list are those of the list, mapped
  pub contains_map : {X : Type 0} (f : X → K) (xs : List X) (x : X) → Contains xs x → Contains (map f xs) (f x)
  contains_map f [] x (k, low, is) = absurd (omega arith)
  contains_map f (y ∷ xs) x (zero, low, is) = (0, omega arith, ap f is)
  contains_map f (y ∷ xs) x (suc k, low, is) = contains_later (f y) (map f xs) (f x) (contains_map f xs x (k, omega arith, is))

  pub contained_from_map : {X : Type 0} (f : X → K) (xs : List X) (y : K) → Contains (map f xs) y → (x : X) × Contains xs x × (f x ≡ y)
  contained_from_map f [] y (k, low, is) = absurd (omega arith)
  contained_from_map f (x ∷ xs) y (zero, low, is) = (x, (0, omega arith, refl), is)
  contained_from_map f (x ∷ xs) y (suc k, low, is) =
      let (w, has, same) = contained_from_map f xs y (k, omega arith, is) in
      let (i, below, at) = has in
      (w, (suc i, omega arith, at), same)

  -- what stands behind an element of an ascending list stands above it
  pub all_below : (cmp : K → K → Ordering) (x : K) (xs : List K) (y : K) → AllByRecursion (λ z. cmp x z ≡ Less) xs → Contains xs y → cmp x y ≡ Less
  all_below cmp x [] y all has = absurd (contains_none y has)
  all_below cmp x (z ∷ xs) y all has =
      elim (contains_cases z xs y has) [ inl same ↦ subst (λ (w : K). cmp x w ≡ Less) same all.0 | inr later ↦ all_below cmp x xs y all.1 later ]

  module _ {cmp : K → K → Ordering} (order : IsTotalOrder cmp) where
    pub not_below_itself : (x : K) → ¬ (cmp x x ≡ Less)
    not_below_itself x less = let tie = tied_itself order x in cc

    not_both_below : (x y : K) → cmp x y ≡ Less → ¬ (cmp y x ≡ Less)
    not_both_below x y one two = not_below_itself x (order.trans x y x one two)

    same_first : (x y : K) (xs ys : List K) → AllByRecursion (λ z. cmp x z ≡ Less) xs → AllByRecursion (λ z. cmp y z ≡ Less) ys → ((t : K) → Contains (x ∷ xs) t ↔ Contains (y ∷ ys) t) → x ≡ y
    same_first x y xs ys up_x up_y same =
        elim (contains_cases y ys x ((same x).0 (contains_first x xs))) [
          | inl first ↦ sym first
          | inr later ↦
              elim (contains_cases x xs y ((same y).1 (contains_first y ys))) [
                | inl first ↦ first
                | inr also ↦ absurd (not_both_below x y (all_below cmp x xs y up_x also) (all_below cmp y ys x up_y later))
              ]
        ]

    same_rest : (x : K) (xs ys : List K) → AllByRecursion (λ z. cmp x z ≡ Less) xs → ((t : K) → Contains (x ∷ xs) t → Contains (x ∷ ys) t) → (t : K) → Contains xs t → Contains ys t
    same_rest x xs ys up same t has =
        elim (contains_cases x ys t (same t (contains_later x xs t has))) [
          | inl first ↦ absurd (not_below_itself x (subst (λ (w : K). cmp x w ≡ Less) (sym first) (all_below cmp x xs t up has)))
          | inr later ↦ later
        ]

    -- two ascending lists of the same elements are one
    pub one_ascending : (xs ys : List K) → IsStrictlySortedBy cmp xs → IsStrictlySortedBy cmp ys → ((t : K) → Contains xs t ↔ Contains ys t) → xs ≡ ys
    unfolding IsStrictlySortedBy
    one_ascending [] [] up_x up_y same = refl
    one_ascending [] (y ∷ ys) up_x up_y same = absurd (contains_none y ((same y).1 (contains_first y ys)))
    one_ascending (x ∷ xs) [] up_x up_y same = absurd (contains_none x ((same x).0 (contains_first x xs)))
    one_ascending (x ∷ xs) (y ∷ ys) up_x up_y same =
        let first = same_first x y xs ys up_x.0 up_y.0 same in
        let up : AllByRecursion (λ z. cmp x z ≡ Less) ys = subst (λ (w : K). AllByRecursion (λ z. cmp w z ≡ Less) ys) (sym first) up_y.0 in
        let there : (t : K) → Contains (x ∷ xs) t → Contains (x ∷ ys) t = λ t has. subst (λ (w : K). Contains (w ∷ ys) t) (sym first) ((same t).0 has) in
        let back : (t : K) → Contains (x ∷ ys) t → Contains (x ∷ xs) t = λ t has. (same t).1 (subst (λ (w : K). Contains (w ∷ ys) t) first has) in
        ap₂ ◌∷◌ first (one_ascending xs ys up_x.1 up_y.1 (λ t. (same_rest x xs ys up_x.0 there t, same_rest x ys xs up back t)))
