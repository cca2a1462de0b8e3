-- The order of characters is that of their UTF-8 bytes.
use Rattle.std.proofs.Common.{◌≡◌, ℕ, ◌+◌, ◌/◌, ◌%◌, ◌<◌, ◌≤◌, ◌⊎◌, inl, inr, List, [], ◌∷◌, ◌++◌, Ordering, Less, Equal, refl, ap, ◌∙◌, arith}
use Rattle.std.proofs.Math.Nat.{div-div-eq-div-mul}
use Rattle.std.proofs.lemmas.Bool.{cases_lt, lt-ltb, le-ltb}
use Rattle.std.proofs.lemmas.Cmp.{tied_itself, nat_cmp_total}
use Rattle.std.specs.Char.{encode_utf8}
use Rattle.std.specs.Cmp.Lexicographic.{slice_cmp}
use Rattle.std.specs.Ordering.{nat_cmp, ordering_then}

abbrev cmp : List ℕ → List ℕ → Ordering
cmp = slice_cmp nat_cmp

-- the first difference of two lists is a lesser number in the first
data Below : List ℕ → List ℕ → Type 0 where
  first : {x y : ℕ} {xs ys : List ℕ} → x < y → Below (x ∷ xs) (y ∷ ys)
  later : {x y : ℕ} {xs ys : List ℕ} → x ≡ y → Below xs ys → Below (x ∷ xs) (y ∷ ys)

less_first : (x y : ℕ) (xs ys : List ℕ) → x < y → cmp (x ∷ xs) (y ∷ ys) ≡ Less
less_first x y xs ys low = let less : nat_cmp x y ≡ Less = rw lt-ltb refl in ap (λ (o : Ordering). ordering_then o (cmp xs ys)) less

less_later : (x y : ℕ) (xs ys : List ℕ) → x ≡ y → cmp xs ys ≡ Less → cmp (x ∷ xs) (y ∷ ys) ≡ Less
less_later x y xs ys same less =
    let tie : nat_cmp x y ≡ Equal = rw same (tied_itself nat_cmp_total y) in ap (λ (o : Ordering). ordering_then o (cmp xs ys)) tie ∙ less

less_from_below : {xs ys : List ℕ} → Below xs ys → cmp xs ys ≡ Less
less_from_below (first {x} {y} {xs} {ys} low) = less_first x y xs ys low
less_from_below (later {x} {y} {xs} {ys} same low) = less_later x y xs ys same (less_from_below low)

pub less_front : (front xs ys : List ℕ) → cmp xs ys ≡ Less → cmp (front ++ xs) (front ++ ys) ≡ Less
less_front [] xs ys less = less
less_front (x ∷ front) xs ys less = less_later x x (front ++ xs) (front ++ ys) refl (less_front front xs ys less)

-- ---- of two numbers, what the last six bits leave decides, and else these bits

last_six : (c d : ℕ) → c < d → (c / 64 < d / 64) ⊎ ((c / 64 ≡ d / 64) × (c % 64 < d % 64))
last_six c d low = elim (cases_lt (c / 64) (d / 64)) [ inl less ↦ inl less | inr up ↦ inr (omega arith, omega arith) ]

below_two : (lead c d : ℕ) (r t : List ℕ) → c < d → Below ((lead + c / 64) ∷ (128 + c % 64) ∷ r) ((lead + d / 64) ∷ (128 + d % 64) ∷ t)
below_two lead c d r t low = elim (last_six c d low) [ inl less ↦ first (omega arith) | inr (same, less) ↦ later (omega arith) (first (omega arith)) ]

below_three : (lead c d : ℕ) (r t : List ℕ) → c < d
    → Below ((lead + c / 64 / 64) ∷ (128 + c / 64 % 64) ∷ (128 + c % 64) ∷ r) ((lead + d / 64 / 64) ∷ (128 + d / 64 % 64) ∷ (128 + d % 64) ∷ t)
below_three lead c d r t low =
    elim (last_six c d low) [
      | inl less ↦ below_two lead (c / 64) (d / 64) ((128 + c % 64) ∷ r) ((128 + d % 64) ∷ t) less
      | inr (same, less) ↦ later (ap (λ n. lead + n / 64) same) (later (ap (λ n. 128 + n % 64) same) (first (omega arith)))
    ]

below_four : (lead c d : ℕ) (r t : List ℕ) → c < d
    → Below ((lead + c / 64 / 64 / 64) ∷ (128 + c / 64 / 64 % 64) ∷ (128 + c / 64 % 64) ∷ (128 + c % 64) ∷ r) ((lead + d / 64 / 64 / 64) ∷ (128 + d / 64 / 64 % 64) ∷ (128 + d / 64 % 64) ∷ (128 + d % 64) ∷ t)
below_four lead c d r t low =
    elim (last_six c d low) [
      | inl less ↦ below_three lead (c / 64) (d / 64) ((128 + c % 64) ∷ r) ((128 + d % 64) ∷ t) less
      | inr (same, less) ↦
          later (ap (λ n. lead + n / 64 / 64) same) (later (ap (λ n. 128 + n / 64 % 64) same) (later (ap (λ n. 128 + n % 64) same) (first (omega arith))))
    ]

-- ---- the bytes of a character, by their number

data Encoded (c : ℕ) : List ℕ → Type 0 where
  one : c < 128 → Encoded c (c ∷ [])
  two : 128 ≤ c → c < 2048 → Encoded c ((192 + c / 64) ∷ (128 + c % 64) ∷ [])
  three : 2048 ≤ c → c < 65536 → Encoded c ((224 + c / 64 / 64) ∷ (128 + c / 64 % 64) ∷ (128 + c % 64) ∷ [])
  four : 65536 ≤ c → Encoded c ((240 + c / 64 / 64 / 64) ∷ (128 + c / 64 / 64 % 64) ∷ (128 + c / 64 % 64) ∷ (128 + c % 64) ∷ [])

encoded : (c : ℕ) → Encoded c (encode_utf8 c)
unfolding encode_utf8
encoded c =
    elim (cases_lt c 128) [
      | inl low ↦ rw (lt-ltb c 128 low) (one low)
      | inr high ↦
          elim (cases_lt c 2048) [
            | inl low ↦ rw (le-ltb c 128 high, lt-ltb c 2048 low) (two high low)
            | inr higher ↦
                elim (cases_lt c 65536) [
                  | inl low ↦ rw (le-ltb c 128 high, le-ltb c 2048 higher, lt-ltb c 65536 low, ← div-div-eq-div-mul c 64 64) (three higher low)
                  | inr highest ↦ rw (le-ltb c 128 high, le-ltb c 2048 higher, le-ltb c 65536 highest, ← div-div-eq-div-mul c 4096 64, ← div-div-eq-div-mul c 64 64) (four highest)
                ]
          ]
    ]

below_encoded : (c d : ℕ) (xs ys r t : List ℕ) → c < d → Encoded c xs → Encoded d ys → Below (xs ++ r) (ys ++ t)
below_encoded c d _ _ r t low (one p) (one q) = first low
below_encoded c d _ _ r t low (one p) (two q q') = first (omega arith)
below_encoded c d _ _ r t low (one p) (three q q') = first (omega arith)
below_encoded c d _ _ r t low (one p) (four q) = first (omega arith)
below_encoded c d _ _ r t low (two p p') (one q) = absurd (omega arith)
below_encoded c d _ _ r t low (two p p') (two q q') = below_two 192 c d r t low
below_encoded c d _ _ r t low (two p p') (three q q') = first (omega arith)
below_encoded c d _ _ r t low (two p p') (four q) = first (omega arith)
below_encoded c d _ _ r t low (three p p') (one q) = absurd (omega arith)
below_encoded c d _ _ r t low (three p p') (two q q') = absurd (omega arith)
below_encoded c d _ _ r t low (three p p') (three q q') = below_three 224 c d r t low
below_encoded c d _ _ r t low (three p p') (four q) = first (omega arith)
below_encoded c d _ _ r t low (four p) (one q) = absurd (omega arith)
below_encoded c d _ _ r t low (four p) (two q q') = absurd (omega arith)
below_encoded c d _ _ r t low (four p) (three q q') = absurd (omega arith)
below_encoded c d _ _ r t low (four p) (four q) = below_four 240 c d r t low

-- a lesser character has lesser bytes, whatever follows
pub less_character : (c d : ℕ) (r t : List ℕ) → c < d → cmp (encode_utf8 c ++ r) (encode_utf8 d ++ t) ≡ Less
less_character c d r t low = less_from_below (below_encoded c d (encode_utf8 c) (encode_utf8 d) r t low (encoded c) (encoded d))
