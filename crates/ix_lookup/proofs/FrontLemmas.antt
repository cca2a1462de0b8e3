-- How a term that shares a front with the term before compares with a word.
use Rattle.std.proofs.Common.{◌≡◌, ℕ, zero, suc, ◌+◌, ◌<◌, ◌≤◌, Bool, true, false, cond, List, [], ◌∷◌, ◌++◌, length, take, drop, nat_eq, Ordering, Less, Equal, Greater, refl, sym, ap, ap₂, ◌∙◌, arith, ◌≢◌, ◌↔◌, IsTrue, eqb-true, eq-eqb, length-append}
use Rattle.std.proofs.lemmas.Bool.Decides.{nat_tests}
use Rattle.std.proofs.lemmas.Cmp.{nat_list_cmp_total}
use Rattle.std.proofs.lemmas.List.{length-take-le}
use Rattle.std.specs.List.{common_prefix_len}
use Rattle.std.specs.Cmp.Lexicographic.{slice_cmp}
use Rattle.std.specs.Ordering.{nat_cmp, ordering_reverse, ordering_then, is_lt}

-- how many bytes two texts share from the front on
abbrev pub common : List ℕ → List ℕ → ℕ
common term word = common_prefix_len nat_eq term word

pub nat_eq-same : (x : ℕ) → nat_eq x x ≡ true
nat_eq-same x = grind (arith, nat_tests)

pub nat_cmp-same : (x y : ℕ) → nat_eq x y ≡ true → (o : Ordering) → ordering_then (nat_cmp y x) o ≡ o
nat_cmp-same x y same o = grind (arith, nat_tests)

pub nat_cmp-apart : (x y : ℕ) → nat_eq x y ≡ false → (o p : Ordering) → ordering_then (nat_cmp y x) o ≡ ordering_then (nat_cmp y x) p
nat_cmp-apart x y other o p = decided (nat_cmp y x) (λ e. grind (arith, nat_tests))
  where
    decided : (r : Ordering) → (r ≡ Equal → ⊥) → ordering_then r o ≡ ordering_then r p
    decided Less apart = refl
    decided Equal apart = absurd (apart refl)
    decided Greater apart = refl

-- a term whose shared front goes on within what the word shares with the term before
pub common_on : (before own word : List ℕ) (shared : ℕ) → shared ≤ length before → shared ≤ common before word → common (take shared before ++ own) word ≡ shared + common own (drop shared word)
common_on before own word zero within on = omega arith
common_on [] own word (suc n) within on = absurd (omega arith)
common_on (x ∷ xs) own [] (suc n) within on = absurd (omega arith)
common_on (x ∷ xs) own (y ∷ ys) (suc n) within on = at (nat_eq x y) refl (λ on. common_on xs own ys n (omega arith) on) on
  where
    at : (b : Bool) → nat_eq x y ≡ b → (n ≤ common xs ys → common (take n xs ++ own) ys ≡ n + common own (drop n ys)) → suc n ≤ cond b (1 + common xs ys) 0
        → cond b (1 + common (take n xs ++ own) ys) 0 ≡ suc n + common own (drop n ys)
    at true same rest on = let others = rest (omega arith) in omega arith
    at false other rest on = absurd (omega arith)

-- and one whose shared front goes past it
pub common_past : (before own word : List ℕ) (shared : ℕ) → shared ≤ length before → common before word < shared → common (take shared before ++ own) word ≡ common before word
common_past before own word zero within past = absurd (omega arith)
common_past [] own word (suc n) within past = absurd (omega arith)
common_past (x ∷ xs) own [] (suc n) within past = refl
common_past (x ∷ xs) own (y ∷ ys) (suc n) within past = at (nat_eq x y) refl (λ past. common_past xs own ys n (omega arith) past) past
  where
    at : (b : Bool) → nat_eq x y ≡ b → (common xs ys < n → common (take n xs ++ own) ys ≡ common xs ys) → cond b (1 + common xs ys) 0 < suc n
        → cond b (1 + common (take n xs ++ own) ys) 0 ≡ cond b (1 + common xs ys) 0
    at true same rest past = ap (λ k. 1 + k) (rest (omega arith))
    at false other rest past = refl

-- the same of the order
pub order_on : (before own word : List ℕ) (shared : ℕ) → shared ≤ length before → shared ≤ common before word → slice_cmp nat_cmp word (take shared before ++ own) ≡ slice_cmp nat_cmp (drop shared word) own
order_on before own word zero within on = refl
order_on [] own word (suc n) within on = absurd (omega arith)
order_on (x ∷ xs) own [] (suc n) within on = absurd (omega arith)
order_on (x ∷ xs) own (y ∷ ys) (suc n) within on = at (nat_eq x y) refl (λ on. order_on xs own ys n (omega arith) on) on
  where
    at : (b : Bool) → nat_eq x y ≡ b → (n ≤ common xs ys → slice_cmp nat_cmp ys (take n xs ++ own) ≡ slice_cmp nat_cmp (drop n ys) own) → suc n ≤ cond b (1 + common xs ys) 0
        → ordering_then (nat_cmp y x) (slice_cmp nat_cmp ys (take n xs ++ own)) ≡ slice_cmp nat_cmp (drop n ys) own
    at true same rest on = nat_cmp-same x y same (slice_cmp nat_cmp ys (take n xs ++ own)) ∙ rest (omega arith)
    at false other rest on = absurd (omega arith)

pub order_past : (before own word : List ℕ) (shared : ℕ) → shared ≤ length before → common before word < shared → slice_cmp nat_cmp word (take shared before ++ own) ≡ slice_cmp nat_cmp word before
order_past before own word zero within past = absurd (omega arith)
order_past [] own word (suc n) within past = absurd (omega arith)
order_past (x ∷ xs) own [] (suc n) within past = refl
order_past (x ∷ xs) own (y ∷ ys) (suc n) within past = at (nat_eq x y) refl (λ past. order_past xs own ys n (omega arith) past) past
  where
    at : (b : Bool) → nat_eq x y ≡ b → (common xs ys < n → slice_cmp nat_cmp ys (take n xs ++ own) ≡ slice_cmp nat_cmp ys xs) → cond b (1 + common xs ys) 0 < suc n
        → ordering_then (nat_cmp y x) (slice_cmp nat_cmp ys (take n xs ++ own)) ≡ ordering_then (nat_cmp y x) (slice_cmp nat_cmp ys xs)
    at true same rest past = ap (λ o. ordering_then (nat_cmp y x) o) (rest (omega arith))
    at false other rest past = nat_cmp-apart x y other (slice_cmp nat_cmp ys (take n xs ++ own)) (slice_cmp nat_cmp ys xs)

-- a term that shares all of the word and is as long is the word
pub same_from_common : (term word : List ℕ) → common term word ≡ length word → length term ≡ length word → term ≡ word
same_from_common [] [] all long = refl
same_from_common [] (y ∷ ys) all long = absurd (omega arith)
same_from_common (x ∷ xs) [] all long = absurd (omega arith)
same_from_common (x ∷ xs) (y ∷ ys) all long = at (nat_eq x y) refl (λ all. same_from_common xs ys all (omega arith)) all
  where
    at : (b : Bool) → nat_eq x y ≡ b → (common xs ys ≡ length ys → xs ≡ ys) → cond b (1 + common xs ys) 0 ≡ suc (length ys) → x ∷ xs ≡ y ∷ ys
    at true same rest all = ap₂ (λ z zs. z ∷ zs) (eqb-true x y same) (rest (omega arith))
    at false other rest all = absurd (omega arith)

pub common_same : (word : List ℕ) → common word word ≡ length word
common_same [] = refl
common_same (x ∷ xs) = ap (λ b. cond b (1 + common xs xs) 0) (nat_eq-same x) ∙ (let rest = common_same xs in omega arith)

-- no text is below the empty one
pub below_none : (word : List ℕ) → false ≡ is_lt (slice_cmp nat_cmp word [])
below_none [] = refl
below_none (x ∷ xs) = refl

-- a term that shares all of the word is the word if it is as long
pub is_word : (before own word : List ℕ) (shared n : ℕ) → shared ≤ length before → n ≡ common (take shared before ++ own) word → n ≡ length word → IsTrue (nat_eq (shared + length own) (length word)) ↔ (take shared before ++ own ≡ word)
is_word before own word shared n within is all =
    let long = length-append (take shared before) own in
    let front = length-take-le shared before within in (
      λ same. same_from_common (take shared before ++ own) word (sym is ∙ all) (omega (arith, eqb-true (shared + length own) (length word) same)),
      λ e. eq-eqb (shared + length own) (length word) (omega (arith, ap length e)),
    )

-- and otherwise another
pub is_other : (term word : List ℕ) (n : ℕ) → n ≡ common term word → n ≢ length word → IsTrue (nat_eq n (length word)) ↔ (term ≡ word)
is_other term word n is apart =
    (λ same. absurd (apart (eqb-true n (length word) same)), λ e. absurd (apart (is ∙ ap (λ t. common t word) e ∙ common_same word)))

-- no later term is the word, if the word is below
pub past_word : (term later word : List ℕ) → slice_cmp nat_cmp word term ≡ Less → slice_cmp nat_cmp term later ≡ Less → later ≡ word → ⊥
past_word term later word below above e =
    let order = nat_list_cmp_total in
    let same : slice_cmp nat_cmp word word ≡ Less = ap (slice_cmp nat_cmp word) (sym e) ∙ order.trans word term later below above in
    let back : Less ≡ ordering_reverse Less = sym same ∙ order.antisymm word word ∙ ap ordering_reverse same in
    cc

pub lt_less : (o : Ordering) → is_lt o ≡ true → o ≡ Less
lt_less Less is = refl
lt_less Equal is = cc
lt_less Greater is = cc
