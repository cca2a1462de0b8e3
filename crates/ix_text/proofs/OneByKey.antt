-- A list in the order of its keys is told by the keys and by what stands under each.
use Rattle.std.proofs.Common.{◌≡◌, List, [], ◌∷◌, map, Contains, Ordering, Less, refl, sym, ap, ap₂, subst, ◌∙◌, inl, inr}
use Rattle.std.specs.Cmp.{IsTotalOrder}
use Rattle.std.specs.List.{AllByRecursion}
use Rattle.std.specs.List.Sorted.{IsStrictlySortedBy}
use Rattle.ix_text.proofs.AscendingLists.{all_below, contains_cases, contains_first, contains_later, contains_map, contains_none, not_below_itself}

module _ {X K : Type 0} (key : X → K) where
  module _ {cmp : K → K → Ordering} (order : IsTotalOrder cmp) where
    -- what stands above another has another key
    not_above : (x y : X) (xs : List X) → AllByRecursion (λ z. cmp (key x) z ≡ Less) (map key xs) → Contains xs y → ¬ (key x ≡ key y)
    not_above x y xs up has same =
        let less = all_below cmp (key x) (map key xs) (key y) up (contains_map key xs y has) in
        not_below_itself order (key x) (subst (λ (k : K). cmp (key x) k ≡ Less) (sym same) less)

    -- one element stands under a key
    pub one_of_key : (xs : List X) → IsStrictlySortedBy cmp (map key xs) → (e f : X) → Contains xs e → Contains xs f → key e ≡ key f → e ≡ f
    unfolding IsStrictlySortedBy
    one_of_key [] up e f has also same = absurd (contains_none e has)
    one_of_key (x ∷ xs) up e f has also same =
        elim (contains_cases x xs e has) [
          | inl first ↦
              elim (contains_cases x xs f also) [
                | inl second ↦ sym first ∙ second
                | inr later ↦ absurd (not_above x f xs up.0 later (ap key first ∙ same))
              ]
          | inr before ↦
              elim (contains_cases x xs f also) [
                | inl second ↦ absurd (not_above x e xs up.0 before (ap key second ∙ sym same))
                | inr later ↦ one_of_key xs up.1 e f before later same
              ]
        ]

  -- lists with the same keys in which what stands under a key is the same are one
  pub one_by_keys : (xs ys : List X) → map key xs ≡ map key ys → ((x y : X) → Contains xs x → Contains ys y → key x ≡ key y → x ≡ y) → xs ≡ ys
  one_by_keys [] [] same alike = refl
  one_by_keys [] (y ∷ ys) same alike = absurd cc
  one_by_keys (x ∷ xs) [] same alike = absurd cc
  one_by_keys (x ∷ xs) (y ∷ ys) same alike =
      let heads : key x ≡ key y = cc in
      let tails : map key xs ≡ map key ys = cc in
      ap₂ ◌∷◌ (alike x y (contains_first x xs) (contains_first y ys) heads)
      (one_by_keys xs ys tails (λ v w has also. alike v w (contains_later x xs v has) (contains_later y ys w also)))
