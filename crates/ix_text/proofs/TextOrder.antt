-- Texts in order, each once.
use Rattle.std.proofs.Common.{◌≡◌, ◌⊎◌, ℕ, List, [], ◌∷◌, Less, Equal, Greater, Contains, refl, sym, ap, ◌∙◌, subst, inl, inr}
use Rattle.std.proofs.lemmas.Cmp.{nat_list_cmp_total}
use Rattle.std.proofs.lemmas.List.Elements.{All-contains, All-contains_itself, All-weaker}
use Rattle.std.proofs.lemmas.Map.Views.{All-insert_key}
use Rattle.std.specs.BTreeSet.{insert_key}
use Rattle.std.specs.Cmp.Lexicographic.{slice_cmp}
use Rattle.std.specs.List.{AllByRecursion}
use Rattle.std.specs.List.Sorted.{IsStrictlySortedBy}
use Rattle.std.specs.Ordering.{match_ordering, nat_cmp, ordering_reverse}
use Rattle.ix_text.specs.ByteOrder.{IsAscending}
use Rattle.ix_text.proofs.AscendingLists.{all_below, contains_cases, contains_first, contains_later, contains_none}
use Rattle.ix_text.proofs.StopSetLemmas.{same_from_Equal}

by_recursion : {A : Type 0} (P : A → Type 0) (xs : List A) → ((x : A) → Contains xs x → P x) → AllByRecursion P xs
by_recursion P [] all = tt
by_recursion P (x ∷ xs) all = (all x (contains_first x xs), by_recursion P xs (λ y has. all y (contains_later x xs y has)))

-- the texts in order, each once
abbrev pub in_order : List (List ℕ) → List (List ℕ)
in_order [] = []
in_order (text ∷ texts) = insert_key (slice_cmp nat_cmp) (in_order texts) text

keys_inside : (text : List ℕ) (xs : List (List ℕ)) (t : List ℕ) → Contains (insert_key (slice_cmp nat_cmp) xs text) t → (text ≡ t) ⊎ Contains xs t
keys_inside text xs t has =
    let P : List ℕ → Type 0 = λ u. (text ≡ u) ⊎ Contains xs u in
    All-contains P (insert_key (slice_cmp nat_cmp) xs text) t (All-insert_key (slice_cmp nat_cmp) text P xs (All-weaker (Contains xs) P (λ u among. inr among) xs (All-contains_itself xs)) (inl refl)) has

keys_ascend : (text : List ℕ) (xs : List (List ℕ)) → IsAscending xs → IsAscending (insert_key (slice_cmp nat_cmp) xs text)
unfolding IsStrictlySortedBy
keys_ascend text [] up = (tt, tt)
keys_ascend text (x ∷ xs) up =
    let order = nat_list_cmp_total in
    elim (slice_cmp nat_cmp text x) as (λ r. slice_cmp nat_cmp text x ≡ r → IsAscending (match_ordering r (text ∷ x ∷ xs) (x ∷ xs) (x ∷ insert_key (slice_cmp nat_cmp) xs text))) [
      | Less ↦ λ less. ((less, by_recursion (λ y. slice_cmp nat_cmp text y ≡ Less) xs (λ y has. order.trans text x y less (all_below (slice_cmp nat_cmp) x xs y up.0 has))), up)
      | Equal ↦ λ tie. up
      | Greater ↦ λ more. (
        by_recursion (λ y. slice_cmp nat_cmp x y ≡ Less) (insert_key (slice_cmp nat_cmp) xs text)
            (λ y has. elim (keys_inside text xs y has) [
              | inl same ↦ subst (λ (t : List ℕ). slice_cmp nat_cmp x t ≡ Less) same (order.antisymm x text ∙ ap ordering_reverse more)
              | inr old ↦ all_below (slice_cmp nat_cmp) x xs y up.0 old
            ]),
        keys_ascend text xs up.1,
      )
    ] refl

keys_all : (text : List ℕ) (xs : List (List ℕ)) (t : List ℕ) → (text ≡ t) ⊎ Contains xs t → Contains (insert_key (slice_cmp nat_cmp) xs text) t
keys_all text [] t has = elim has [ inl same ↦ subst (Contains (text ∷ [])) same (contains_first text []) | inr later ↦ absurd (contains_none t later) ]
keys_all text (x ∷ xs) t has =
    elim (slice_cmp nat_cmp text x) as (λ r. slice_cmp nat_cmp text x ≡ r → Contains (match_ordering r (text ∷ x ∷ xs) (x ∷ xs) (x ∷ insert_key (slice_cmp nat_cmp) xs text)) t) [
      | Less ↦ λ less. elim has [ inl same ↦ subst (Contains (text ∷ x ∷ xs)) same (contains_first text (x ∷ xs)) | inr later ↦ contains_later text (x ∷ xs) t later ]
      | Equal ↦ λ tie. elim has [ inl same ↦ subst (Contains (x ∷ xs)) (sym (same_from_Equal text x tie) ∙ same) (contains_first x xs) | inr later ↦ later ]
      | Greater ↦ λ more. elim has [
        | inl same ↦ contains_later x (insert_key (slice_cmp nat_cmp) xs text) t (keys_all text xs t (inl same))
        | inr old ↦ elim (contains_cases x xs t old) [
          | inl same ↦ subst (Contains (x ∷ insert_key (slice_cmp nat_cmp) xs text)) same (contains_first x (insert_key (slice_cmp nat_cmp) xs text))
          | inr later ↦ contains_later x (insert_key (slice_cmp nat_cmp) xs text) t (keys_all text xs t (inr later))
        ]
      ]
    ] refl

pub order_ascends : (texts : List (List ℕ)) → IsAscending (in_order texts)
unfolding IsStrictlySortedBy
order_ascends [] = tt
order_ascends (text ∷ texts) = keys_ascend text (in_order texts) (order_ascends texts)

pub order_inside : (texts : List (List ℕ)) (t : List ℕ) → Contains (in_order texts) t → Contains texts t
order_inside [] t has = has
order_inside (text ∷ texts) t has = elim (keys_inside text (in_order texts) t has) [
  | inl same ↦ subst (Contains (text ∷ texts)) same (contains_first text texts)
  | inr later ↦ contains_later text texts t (order_inside texts t later)
]

pub order_all : (texts : List (List ℕ)) (t : List ℕ) → Contains texts t → Contains (in_order texts) t
order_all [] t has = has
order_all (text ∷ texts) t has = keys_all text (in_order texts) t (elim (contains_cases text texts t has) [ inl same ↦ inl same | inr later ↦ inr (order_all texts t later) ])
