-- How many numbers have a property.
use Rattle.std.proofs.Common.{◌≡◌, ℕ, ◌+◌, ◌-◌, ◌<◌, ◌≤◌, inl, inr, List, [], ◌∷◌, ◌++◌, map, refl, sym, ap, ◌∙◌, subst, arith, length-append}
use Rattle.std.specs.Prelude.{Contains, ◌↔◌, get_or}
use Rattle.std.specs.List.Sorted.{IsStrictlyIncreasing}
use Rattle.std.proofs.lemmas.Bool.{cases_lt}
use Rattle.std.proofs.lemmas.List.{length-map}
use Rattle.std.proofs.lemmas.List.Elements.{Contains-append_cases, Contains-append_left, Contains-append_right}
use Rattle.ix_scan.proofs.Members.{in_shifted, increasing_joined, none_in_nil, shifted_has, shifted_increasing}
use Rattle.ix_archive.specs.Checks.{AreCounted}

-- The numbers ascend, and are those that have the property.
pub record AreThose (P : ℕ → Type 0) (numbers : List ℕ) : Type 0 where
  pub ascending : IsStrictlyIncreasing numbers
  pub exact : (number : ℕ) → Contains numbers number ↔ P number

-- the numbers below a size that have a property, and those behind that have another one
module _ (size : ℕ) (P Q R : ℕ → Type 0) (below : (n : ℕ) → P n → n < size) (left : (n : ℕ) → n < size → R n ↔ P n) (right : (n k : ℕ) → size + k ≡ n → R n ↔ Q k)
    (before numbers : List ℕ) (one : AreThose P before) (other : AreThose Q numbers) where
  abbrev later : List ℕ
  later = map (λ n. size + n) numbers

  low : (n : ℕ) → Contains before n → n < size
  low n among = below n ((one.exact n).0 among)

  high : (n : ℕ) → Contains later n → size ≤ n
  high n among = let from = in_shifted size numbers n among in let is = from.2 in omega arith

  sound : (n : ℕ) → Contains (before ++ later) n → R n
  sound n among = elim (Contains-append_cases before later n among) [
    | inl was ↦ (left n (low n was)).1 ((one.exact n).0 was)
    | inr new ↦ let from = in_shifted size numbers n new in (right n from.0 from.2).1 ((other.exact from.0).0 from.1)
  ]

  complete : (n : ℕ) → R n → Contains (before ++ later) n
  complete n has = elim (cases_lt n size) [
    | inl small ↦ Contains-append_left before later n ((one.exact n).1 ((left n small).0 has))
    | inr large ↦
        let k = n - size in
        let is : size + k ≡ n = omega arith in
        Contains-append_right before later n (subst (λ (m : ℕ). Contains later m) is (shifted_has size numbers k ((other.exact k).1 ((right n k is).0 has))))
  ]

  pub those_joined : AreThose R (before ++ later)
  those_joined = record {
    ascending = increasing_joined before later size one.ascending (shifted_increasing size numbers other.ascending) low high;
    exact = λ n. (sound n, complete n);
  }

those_of : (P : ℕ → Type 0) (count : ℕ) (are : AreCounted P count) → AreThose P are.numbers
those_of P count are = record { ascending = are.ascending; exact = are.exact }

pub counted_alike : (P Q : ℕ → Type 0) (count : ℕ) → ((n : ℕ) → P n ↔ Q n) → AreCounted P count → AreCounted Q count
counted_alike P Q count alike are = record {
  numbers = are.numbers;
  ascending = are.ascending;
  exact = λ n. (λ among. (alike n).0 ((are.exact n).0 among), λ has. (are.exact n).1 ((alike n).1 has));
  counted = are.counted;
}

pub counted_joined : (size : ℕ) (P Q R : ℕ → Type 0) (a b : ℕ) → ((n : ℕ) → P n → n < size) → ((n : ℕ) → n < size → R n ↔ P n) → ((n k : ℕ) → size + k ≡ n → R n ↔ Q k)
    → AreCounted P a → AreCounted Q b → AreCounted R (a + b)
counted_joined size P Q R a b below left right one other =
    let all = those_joined size P Q R below left right one.numbers other.numbers (those_of P a one) (those_of Q b other) in
    let later : List ℕ = map (λ n. size + n) other.numbers in
    record {
      numbers = one.numbers ++ later;
      ascending = all.ascending;
      exact = all.exact;
      counted = let x = one.counted in let y = other.counted in let sum = length-append one.numbers later in let same = length-map other.numbers (λ (n : ℕ). size + n) in omega arith;
    }

-- ---- one number after another

-- the numbers below i that have the property
abbrev pub Below : ℕ → (ℕ → Type 0) → ℕ → Type 0
Below i P n = (n < i) × P n

pub none_counted : (P : ℕ → Type 0) → ((n : ℕ) → ¬ (P n)) → AreCounted P 0
none_counted P none = record {
  numbers = [];
  ascending = λ i within. absurd (omega arith);
  exact = λ n. (λ among. absurd (none_in_nil n among), λ has. absurd (none n has));
  counted = refl;
}

pub one_less : (i : ℕ) (P : ℕ → Type 0) (count : ℕ) → ¬ (P i) → AreCounted (Below i P) count → AreCounted (Below (i + 1) P) count
one_less i P count none are = counted_alike (Below i P) (Below (i + 1) P) count (λ n. (
  λ (low, has). (omega arith, has),
  λ (low, has). (
    elim (cases_lt n i) [
      | inl small ↦ small
      | inr large ↦ let same : n ≡ i = omega arith in absurd (none (subst P same has))
    ],
    has,
  ),
)) are

zero_counted : AreCounted (λ k. k ≡ 0) 1
zero_counted = record {
  numbers = 0 ∷ [];
  ascending = λ i within. absurd (omega arith);
  exact = λ n. (λ (k, within, is). let first : k ≡ 0 = omega arith in sym is ∙ ap (λ (j : ℕ). get_or (0 ∷ []) j n) first, λ is. (0, omega arith, sym is));
  counted = refl;
}

pub one_more : (i : ℕ) (P : ℕ → Type 0) (count : ℕ) → P i → AreCounted (Below i P) count → AreCounted (Below (i + 1) P) (count + 1)
one_more i P count has are = counted_joined i (Below i P) (λ k. k ≡ 0) (Below (i + 1) P) count 1 (λ n (low, _). low)
    (λ n small. (λ (low, is). (small, is), λ (low, is). (omega arith, is)))
    (λ n k at. (λ (low, is). omega arith, λ first. let same : i ≡ n = omega arith in (omega arith, subst P same has)))
    are zero_counted
