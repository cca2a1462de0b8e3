-- In the order of bytes the terms that begin with a text stand side by side.
use Rattle.std.proofs.Common.{◌≡◌, ℕ, ◌+◌, ◌<◌, ◌≤◌, ◌⊎◌, inl, inr, List, [], ◌∷◌, ◌++◌, length, take, drop, get_or, Bool, true, false, Some, Ordering, Less, Equal, Greater, refl, sym, ap, ◌∙◌, subst, arith}
use Rattle.std.proofs.lemmas.Bool.{cases_lt}
use Rattle.std.proofs.lemmas.Cmp.{by_ranked, nat_list_cmp_total, ranked, tied_itself}
use Rattle.std.proofs.lemmas.List.{take_at, take-append-drop}
use Rattle.std.proofs.lemmas.Map.Keys.{Less-from_sorted}
use Rattle.std.proofs.lemmas.Option.{get_or_from_slice_get, slice_get_within}
use Rattle.std.specs.Cmp.{nat_cmp_is}
use Rattle.std.specs.Cmp.Lexicographic.{slice_cmp}
use Rattle.std.specs.Ordering.{is_le, is_lt, nat_cmp, ordering_then}
use Rattle.std.specs.Prelude.{◌↔◌, slice_get}
use Rattle.ix_text.specs.ByteOrder.{IsAscending}
use Rattle.ix_text.proofs.StopSetLemmas.{same_from_Equal}
use Rattle.ix_gram.specs.Fronts.{BeginsWith, front_side, stands_before}

abbrev cmp : List ℕ → List ℕ → Ordering
cmp = slice_cmp nat_cmp

-- ---- the order, byte by byte

by_first : (x y : ℕ) (xs ys : List ℕ) → x < y → cmp (x ∷ xs) (y ∷ ys) ≡ Less
by_first x y xs ys less = let is : Less ≡ nat_cmp x y = nat_cmp_is x y Less less in ap (λ o. ordering_then o (cmp xs ys)) (sym is)

by_rest : (x y : ℕ) (xs ys : List ℕ) → x ≡ y → cmp (x ∷ xs) (y ∷ ys) ≡ cmp xs ys
by_rest x y xs ys same = let is : Equal ≡ nat_cmp x y = nat_cmp_is x y Equal same in ap (λ o. ordering_then o (cmp xs ys)) (sym is)

less_cases : (x y : ℕ) (xs ys : List ℕ) → cmp (x ∷ xs) (y ∷ ys) ≡ Less → (x < y) ⊎ ((x ≡ y) × (cmp xs ys ≡ Less))
less_cases x y xs ys less =
    by_ranked (x < y) (x ≡ y) (y < x) (nat_cmp x y) (ranked x y (nat_cmp x y) refl)
    (λ _ below. inl below)
    (λ is same. inr (same, ap (λ o. ordering_then o (cmp xs ys)) (sym is) ∙ less))
    (λ is _. absurd (let wrong : Greater ≡ Less = ap (λ o. ordering_then o (cmp xs ys)) (sym is) ∙ less in cc))

less_stands : (past : Bool) → stands_before past Less ≡ true
less_stands true = refl
less_stands false = refl

greater_stands : (past : Bool) → stands_before past Greater ≡ false
greater_stands true = refl
greater_stands false = refl

stands_cases : (past : Bool) (x y : ℕ) (xs ys : List ℕ) → stands_before past (cmp (x ∷ xs) (y ∷ ys)) ≡ true → (x < y) ⊎ ((x ≡ y) × (stands_before past (cmp xs ys) ≡ true))
stands_cases past x y xs ys before =
    by_ranked (x < y) (x ≡ y) (y < x) (nat_cmp x y) (ranked x y (nat_cmp x y) refl)
    (λ _ below. inl below)
    (λ is same. inr (same, ap (λ o. stands_before past (ordering_then o (cmp xs ys))) (sym is) ∙ before))
    (λ is _. absurd (let wrong : false ≡ true = sym (greater_stands past) ∙ ap (λ o. stands_before past (ordering_then o (cmp xs ys))) (sym is) ∙ before in cc))

-- a term below one that stands before the text does too
pub front_monotone : (past : Bool) (a b text : List ℕ) → cmp a b ≡ Less → stands_before past (front_side b text) ≡ true → stands_before past (front_side a text) ≡ true
front_monotone past a b [] less before = before
front_monotone past [] b (y ∷ text) less before = less_stands past
front_monotone past (x ∷ a) [] (y ∷ text) less before = absurd (let wrong : Greater ≡ Less = less in cc)
front_monotone past (x ∷ a) (z ∷ b) (y ∷ text) less before =
    let below : x < y → stands_before past (front_side (x ∷ a) (y ∷ text)) ≡ true =
    λ h. ap (stands_before past) (by_first x y (take (length text) a) text h) ∙ less_stands past in
    elim (stands_cases past z y (take (length text) b) text before) [
      | inl under ↦ elim (less_cases x z a b less) [ inl first ↦ below (omega arith) | inr same ↦ below (omega (arith, same.0)) ]
      | inr level ↦ elim (less_cases x z a b less) [
        | inl first ↦ below (omega (arith, level.0))
        | inr same ↦
            ap (stands_before past) (by_rest x y (take (length text) a) text (same.0 ∙ level.0))
            ∙ front_monotone past a b text same.1 level.1
      ]
    ]

-- ---- what halving keeps

pub record IsBetween (terms : List (List ℕ)) (text : List ℕ) (past : Bool) (low high : ℕ) : Type 0 where
  pub order : low ≤ high
  pub within : high ≤ length terms
  pub before : (k : ℕ) (term : List ℕ) → slice_get terms k ≡ Some term → k < low → stands_before past (front_side term text) ≡ true
  pub behind : (k : ℕ) (term : List ℕ) → slice_get terms k ≡ Some term → high ≤ k → stands_before past (front_side term text) ≡ false

terms_rise : (terms : List (List ℕ)) (i j : ℕ) (a b : List ℕ) → IsAscending terms → slice_get terms i ≡ Some a → slice_get terms j ≡ Some b → i < j → cmp a b ≡ Less
terms_rise terms i j a b up first second less =
    let one : get_or terms i [] ≡ a = get_or_from_slice_get terms i a [] first in
    let other : get_or terms j [] ≡ b = get_or_from_slice_get terms j b [] second in
    let within = slice_get_within terms j b second in
    let rise : cmp (get_or terms i []) (get_or terms j []) ≡ Less = Less-from_sorted cmp terms i j [] up less within in
    subst (λ t. cmp t b ≡ Less) one (subst (λ t. cmp (get_or terms i []) t ≡ Less) other rise)

same_term : (terms : List (List ℕ)) (i j : ℕ) (a b : List ℕ) → slice_get terms i ≡ Some a → slice_get terms j ≡ Some b → i ≡ j → a ≡ b
same_term terms i j a b first second same = sym (get_or_from_slice_get terms i a [] first) ∙ ap (λ k. get_or terms k []) same ∙ get_or_from_slice_get terms j b [] second

pub between-higher : (terms : List (List ℕ)) (text : List ℕ) (past : Bool) (low high middle : ℕ) (term : List ℕ) → IsAscending terms → slice_get terms middle ≡ Some term → middle < high → stands_before past (front_side term text) ≡ true → IsBetween terms text past low high → IsBetween terms text past (middle + 1) high
between-higher terms text past low high middle term up at under before b = record {
  order = omega arith;
  within = b.within;
  before = λ k other there below. elim (cases_lt k middle) [
    | inl less ↦ front_monotone past other term text (terms_rise terms k middle other term up there at less) before
    | inr more ↦
        let same : middle ≡ k = omega arith in
        let P : List ℕ → Type 0 = λ t. stands_before past (front_side t text) ≡ true in subst P (same_term terms middle k term other at there same) before
  ];
  behind = b.behind;
}

pub between-lower : (terms : List (List ℕ)) (text : List ℕ) (past : Bool) (low high middle : ℕ) (term : List ℕ) → IsAscending terms → slice_get terms middle ≡ Some term → low ≤ middle → middle < high → stands_before past (front_side term text) ≡ false → IsBetween terms text past low high → IsBetween terms text past low middle
between-lower terms text past low high middle term up at over under behind b = record {
  order = over;
  within = let within = b.within in omega arith;
  before = b.before;
  behind = λ k other there above.
      let Q : Bool → Type 0 = λ v. stands_before past (front_side other text) ≡ v → stands_before past (front_side other text) ≡ false in
      elim (stands_before past (front_side other text)) as Q [
        | false ↦ λ is. is
        | true ↦ λ is. absurd (
            elim (cases_lt middle k) [
              | inl less ↦ let wrong : stands_before past (front_side term text) ≡ true = front_monotone past term other text (terms_rise terms middle k term other up at there less) is in cc
              | inr more ↦
                  let same : k ≡ middle = omega arith in
                  let P : List ℕ → Type 0 = λ t. stands_before past (front_side t text) ≡ true in
                  let wrong : stands_before past (front_side term text) ≡ true = subst P (same_term terms k middle other term there at same) is in cc
            ])
      ] refl;
}

-- ---- both bounds

side_of_front : (term text rest : List ℕ) → term ≡ text ++ rest → front_side term text ≡ Equal
side_of_front term text rest is =
    let front : take (length text) term ≡ text = ap (take (length text)) is ∙ take_at text rest (length text) refl in
    ap (λ t. cmp t text) front ∙ tied_itself nat_list_cmp_total text

both_sides : (o : Ordering) → is_lt o ≡ false → is_le o ≡ true → o ≡ Equal
both_sides Less a b = absurd cc
both_sides Equal a b = refl
both_sides Greater a b = absurd cc

pub begins_between : (terms : List (List ℕ)) (text : List ℕ) (start end number : ℕ) (term : List ℕ)
    → (number < start → stands_before false (front_side term text) ≡ true) → (start ≤ number → stands_before false (front_side term text) ≡ false)
    → (number < end → stands_before true (front_side term text) ≡ true) → (end ≤ number → stands_before true (front_side term text) ≡ false)
    → BeginsWith term text ↔ ((start ≤ number) × (number < end))
begins_between terms text start end number term low from high past = (
  λ (rest, is).
      let side : front_side term text ≡ Equal = side_of_front term text rest is in (
        elim (cases_lt number start) [ inl below ↦ absurd (let wrong : false ≡ true = ap (stands_before false) (sym side) ∙ low below in cc) | inr above ↦ above ],
        elim (cases_lt number end) [ inl below ↦ below | inr above ↦ absurd (let wrong : true ≡ false = ap (stands_before true) (sym side) ∙ past above in cc) ],
      ),
  λ (above, below).
      let tie : front_side term text ≡ Equal = both_sides (front_side term text) (from above) (high below) in
      let front : take (length text) term ≡ text = same_from_Equal (take (length text) term) text tie in
      (drop (length text) term, sym (take-append-drop (length text) term) ∙ ap (λ t. t ++ drop (length text) term) front),
)
