-- Which numbers are in lists that were filtered, shifted or joined, and that members alone make an ascending list.
use Rattle.std.proofs.Common.{◌≡◌, ℕ, zero, suc, ◌+◌, ◌<◌, ◌≤◌, ◌-◌, ◌⊎◌, inl, inr, Bool, true, false, List, [], ◌∷◌, ◌++◌, map, length, get_or, refl, sym, ap, ap₂, ◌∙◌, subst, arith, length-append}
use Rattle.std.specs.Prelude.{AllPairs, cond, Contains, filter}
use Rattle.std.specs.List.Sorted.{IsStrictlyIncreasing}
use Rattle.std.proofs.lemmas.Bool.{cases_lt}
use Rattle.std.proofs.lemmas.List.{get_or-append_right, get_or-map, get_or_append_left, get_or_default, length-map}
use Rattle.std.proofs.lemmas.List.Kept.{AllPairs-from_increasing}

pub none_in_nil : {X : Type 0} (x : X) → ¬ (Contains [] x)
none_in_nil x (k, within, is) = absurd (omega arith)

first_in : {X : Type 0} (x : X) (xs : List X) → Contains (x ∷ xs) x
first_in x xs = (0, omega arith, refl)

further_in : {X : Type 0} (x y : X) (xs : List X) → Contains xs y → Contains (x ∷ xs) y
further_in x y xs (k, within, is) = (suc k, omega arith, is)

first_or_further : {X : Type 0} (x y : X) (xs : List X) → Contains (x ∷ xs) y → (x ≡ y) ⊎ Contains xs y
first_or_further x y xs (zero, within, is) = inl is
first_or_further x y xs (suc k, within, is) = inr (k, omega arith, is)

-- ---- filtered

filter_by : (p : ℕ → Bool) (x : ℕ) (xs : List ℕ) (n : ℕ) (b : Bool) → p x ≡ b → ((m : ℕ) → Contains (filter p xs) m → Contains xs m × (p m ≡ true))
    → Contains (cond b (x ∷ filter p xs) (filter p xs)) n → Contains (x ∷ xs) n × (p n ≡ true)
filter_by p x xs n true is rest h = elim (first_or_further x n (filter p xs) h) [
  | inl same ↦ (subst (λ (m : ℕ). Contains (x ∷ xs) m) same (first_in x xs), ap p (sym same) ∙ is)
  | inr more ↦ let r = rest n more in (further_in x n xs r.0, r.1)
]
filter_by p x xs n false is rest h = let r = rest n h in (further_in x n xs r.0, r.1)

pub in_filtered : (p : ℕ → Bool) (xs : List ℕ) (n : ℕ) → Contains (filter p xs) n → Contains xs n × (p n ≡ true)
in_filtered p [] n h = absurd (none_in_nil n h)
in_filtered p (x ∷ xs) n h = filter_by p x xs n (p x) refl (in_filtered p xs) h

keep_by : (p : ℕ → Bool) (x : ℕ) (xs : List ℕ) (n : ℕ) (b : Bool) → p x ≡ b → p n ≡ true → (x ≡ n) ⊎ Contains (filter p xs) n → Contains (cond b (x ∷ filter p xs) (filter p xs)) n
keep_by p x xs n true is passes (inl same) = subst (λ (m : ℕ). Contains (x ∷ filter p xs) m) same (first_in x (filter p xs))
keep_by p x xs n true is passes (inr more) = further_in x n (filter p xs) more
keep_by p x xs n false is passes (inl same) = absurd (let lacks = ap p same in cc)
keep_by p x xs n false is passes (inr more) = more

pub filtered_has : (p : ℕ → Bool) (xs : List ℕ) (n : ℕ) → p n ≡ true → Contains xs n → Contains (filter p xs) n
filtered_has p [] n passes h = absurd (none_in_nil n h)
filtered_has p (x ∷ xs) n passes h = keep_by p x xs n (p x) refl passes (elim (first_or_further x n xs h) [ inl same ↦ inl same | inr more ↦ inr (filtered_has p xs n passes more) ])

-- ---- shifted

pub in_shifted : (k : ℕ) (xs : List ℕ) (n : ℕ) → Contains (map (λ m. k + m) xs) n → (m : ℕ) × Contains xs m × (k + m ≡ n)
in_shifted k [] n h = absurd (none_in_nil n h)
in_shifted k (x ∷ xs) n h = elim (first_or_further (k + x) n (map (λ m. k + m) xs) h) [
  | inl same ↦ (x, first_in x xs, same)
  | inr more ↦ let r = in_shifted k xs n more in (r.0, further_in x r.0 xs r.1, r.2)
]

pub shifted_has : (k : ℕ) (xs : List ℕ) (m : ℕ) → Contains xs m → Contains (map (λ x. k + x) xs) (k + m)
shifted_has k [] m h = absurd (none_in_nil m h)
shifted_has k (x ∷ xs) m h = elim (first_or_further x m xs h) [
  | inl same ↦ subst (λ (y : ℕ). Contains (map (λ x. k + x) (x ∷ xs)) (k + y)) same (first_in (k + x) (map (λ x. k + x) xs))
  | inr more ↦ further_in (k + x) (k + m) (map (λ x. k + x) xs) (shifted_has k xs m more)
]

pub shifted_increasing : (k : ℕ) (xs : List ℕ) → IsStrictlyIncreasing xs → IsStrictlyIncreasing (map (λ m. k + m) xs)
shifted_increasing k xs up i below =
    let add : ℕ → ℕ = λ m. k + m in
    let within : i + 1 < length xs = omega (arith, length-map xs add) in
    let less = up i within in
    omega (arith, get_or-map add xs i 0 0 (omega arith), get_or-map add xs (i + 1) 0 0 within)

-- ---- joined

pub increasing_joined : (xs ys : List ℕ) (k : ℕ) → IsStrictlyIncreasing xs → IsStrictlyIncreasing ys → ((n : ℕ) → Contains xs n → n < k) → ((n : ℕ) → Contains ys n → k ≤ n) → IsStrictlyIncreasing (xs ++ ys)
increasing_joined xs ys k up more low high i below =
    let size : length (xs ++ ys) ≡ length xs + length ys = length-append xs ys in
    elim (cases_lt (i + 1) (length xs)) [
      | inl inside ↦
          let first = get_or_append_left xs ys 0 i (omega arith) in
          let second = get_or_append_left xs ys 0 (i + 1) inside in
          let less = up i inside in omega (arith, first, second)
      | inr outside ↦ elim (cases_lt i (length xs)) [
        | inl last ↦
            let first = get_or_append_left xs ys 0 i last in
            let second : get_or (xs ++ ys) (i + 1) 0 ≡ get_or ys 0 0 = get_or-append_right xs ys (length xs) (i + 1) 0 refl outside ∙ ap (λ (n : ℕ). get_or ys n 0) (omega arith) in
            let a : get_or xs i 0 < k = low (get_or xs i 0) (i, last, get_or_default xs i (get_or xs i 0) 0 last) in
            let b : k ≤ get_or ys 0 0 = high (get_or ys 0 0) (0, omega arith, get_or_default ys 0 (get_or ys 0 0) 0 (omega arith)) in
            omega (arith, first, second)
        | inr past ↦
            let j = i - length xs in
            let first : get_or (xs ++ ys) i 0 ≡ get_or ys j 0 = get_or-append_right xs ys (length xs) i 0 refl past in
            let second : get_or (xs ++ ys) (i + 1) 0 ≡ get_or ys (j + 1) 0 = get_or-append_right xs ys (length xs) (i + 1) 0 refl outside ∙ ap (λ (n : ℕ). get_or ys n 0) (omega arith) in
            let less : get_or ys j 0 < get_or ys (j + 1) 0 = more j (omega arith) in
            omega (arith, first, second)
      ]
    ]

-- ---- the same members

abbrev Ascend : List ℕ → Type 0
Ascend xs = AllPairs (λ (a b : ℕ). a < b) xs

below_head : (x n : ℕ) (xs : List ℕ) → Ascend (x ∷ xs) → Contains xs n → x < n
below_head x n xs pairs (k, within, is) =
    let less : x < get_or xs k n = pairs 0 (suc k) n (omega arith) (omega arith) in omega (arith, is)

tail_ascends : (x : ℕ) (xs : List ℕ) → Ascend (x ∷ xs) → Ascend xs
tail_ascends x xs pairs i j d before within = pairs (suc i) (suc j) d (omega arith) (omega arith)

not_below : (x y : ℕ) (ys : List ℕ) → Ascend (y ∷ ys) → Contains (y ∷ ys) x → y ≤ x
not_below x y ys pairs h = elim (first_or_further y x ys h) [ inl e ↦ omega arith | inr more ↦ let less = below_head y x ys pairs more in omega arith ]

past_head : (x y n : ℕ) (xs ys : List ℕ) → Ascend (x ∷ xs) → x ≡ y → ((m : ℕ) → Contains (x ∷ xs) m → Contains (y ∷ ys) m) → Contains xs n → Contains ys n
past_head x y n xs ys pairs e there h = elim (first_or_further y n ys (there n (further_in x n xs h))) [
  | inl same ↦ absurd (let less = below_head x n xs pairs h in omega arith)
  | inr more ↦ more
]

one_list : (xs ys : List ℕ) → Ascend xs → Ascend ys → ((n : ℕ) → Contains xs n → Contains ys n) → ((n : ℕ) → Contains ys n → Contains xs n) → xs ≡ ys
one_list [] [] p q there back = refl
one_list [] (y ∷ ys) p q there back = absurd (none_in_nil y (back y (first_in y ys)))
one_list (x ∷ xs) [] p q there back = absurd (none_in_nil x (there x (first_in x xs)))
one_list (x ∷ xs) (y ∷ ys) p q there back =
    let low = not_below x y ys q (there x (first_in x xs)) in
    let high = not_below y x xs p (back y (first_in y ys)) in
    let same : x ≡ y = omega arith in
    ap₂ (λ (n : ℕ) (ns : List ℕ). n ∷ ns) same
    (one_list xs ys (tail_ascends x xs p) (tail_ascends y ys q) (λ n h. past_head x y n xs ys p same there h) (λ n h. past_head y x n ys xs q (sym same) back h))

pub same_members : (xs ys : List ℕ) → IsStrictlyIncreasing xs → IsStrictlyIncreasing ys → ((n : ℕ) → Contains xs n → Contains ys n) → ((n : ℕ) → Contains ys n → Contains xs n) → xs ≡ ys
same_members xs ys p q there back = one_list xs ys (AllPairs-from_increasing xs p) (AllPairs-from_increasing ys q) there back
