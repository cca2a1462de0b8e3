-- Postings of one position, from their first five bytes.
use Rattle.std.proofs.Common.{append_assoc, ◌≡◌, ℕ, zero, suc, refl, ◌+◌, ◌-◌, ◌*◌, ◌/◌, ◌%◌, ◌^◌, ◌<◌, ◌≤◌, ◌⊎◌, List, [], ◌∷◌, ◌++◌, length, drop, get_or, Option, None, Some, IfNone, sym, ap, ◌∙◌, arith, inl, inr}
use Rattle.std.proofs.lemmas.Bool.{cases_lt}
use Rattle.std.proofs.lemmas.List.{length-append}
use Rattle.std.specs.Int.Digits.{digits_of}
use Rattle.std.proofs.lemmas.Int.Digits.{digits_of_step}
use Rattle.ix_vbyte.specs.Code.{code_of}
use Rattle.ix_vbyte.specs.ShortPostings.{BeginsWithShort, BeginsWithSingle, IsShortCode, single_bytes}

-- a marked byte is a code
pub code_of-one : (first number : ℕ) → 128 ≤ first → first < 256 → number ≡ first % 128 → code_of number ≡ first ∷ []
unfolding code_of
code_of-one first number marked byte is =
    let high : number / 128 ≡ 0 = omega arith in
    let low : 128 + number % 128 ≡ first = omega arith in
    ap (λ (m : ℕ). digits_of 128 m ++ (128 + number % 128) ∷ []) high ∙ ap (λ (x : ℕ). x ∷ []) low

-- an unmarked byte that is not 0, and a marked one, are a code
pub code_of-two : (first second number : ℕ) → 0 < first → first < 128 → 128 ≤ second → second < 256 → number ≡ first * 128 + second % 128 → code_of number ≡ first ∷ second ∷ []
unfolding code_of
code_of-two first second number some below marked byte is =
    let high : number / 128 ≡ first = omega arith in
    let low : 128 + number % 128 ≡ second = omega arith in
    let over : first / 128 ≡ 0 = omega arith in
    let left : first % 128 ≡ first = omega arith in
    let digits : digits_of 128 first ≡ first ∷ [] =
    digits_of_step 128 first (omega arith) some
    ∙ ap (λ (m : ℕ). digits_of 128 m ++ (first % 128) ∷ []) over
    ∙ ap (λ (x : ℕ). x ∷ []) left in
    ap (λ (m : ℕ). digits_of 128 m ++ (128 + number % 128) ∷ []) high
    ∙ ap (λ (xs : List ℕ). xs ++ (128 + number % 128) ∷ []) digits
    ∙ ap (λ (x : ℕ). first ∷ x ∷ []) low

one_is : code_of 1 ≡ 129 ∷ []
one_is = code_of-one 129 1 (omega arith) (omega arith) (omega arith)

-- what two bytes begin with is the code of its number
record IsSpelled (first second number size : ℕ) (rest : List ℕ) : Type 0 where
  spelled : first ∷ second ∷ rest ≡ code_of number ++ drop size (first ∷ second ∷ rest)
  sized : size ≡ length (code_of number)

short_spelled : (first second number size : ℕ) (rest : List ℕ) → first < 256 → second < 256 → IsShortCode first second number size → IsSpelled first second number size rest
short_spelled first second number size rest byte also is = elim (cases_lt first 128) [
  | inl low ↦
      let two = is.two low in
      let code = code_of-two first second number two.2 low two.3 also (omega (arith, two.0, two.3)) in
      record {
        spelled = ap (λ (xs : List ℕ). xs ++ rest) (sym code) ∙ ap (λ (n : ℕ). code_of number ++ drop n (first ∷ second ∷ rest)) (sym two.1);
        sized = two.1 ∙ ap length (sym code);
      }
  | inr high ↦
      let one = is.one high in
      let code = code_of-one first number high byte (omega (arith, one.0)) in
      record {
        spelled = ap (λ (xs : List ℕ). xs ++ second ∷ rest) (sym code) ∙ ap (λ (n : ℕ). code_of number ++ drop n (first ∷ second ∷ rest)) (sym one.1);
        sized = one.1 ∙ ap length (sym code);
      }
]

-- no byte stands behind the last
pub get_or-past : (bytes : List ℕ) (place : ℕ) → length bytes ≤ place → get_or bytes place 0 ≡ 0
get_or-past [] place le = refl
get_or-past (byte ∷ bytes) zero le = absurd (omega arith)
get_or-past (byte ∷ bytes) (suc place) le = get_or-past bytes place (omega arith)

-- ---- a number that is there is found, and a posting

pub short_found : (bytes : List ℕ) (number size : ℕ) → 0 < length bytes → get_or bytes 0 0 < 256 → get_or bytes 1 0 < 256 → IsShortCode (get_or bytes 0 0) (get_or bytes 1 0) number size → BeginsWithShort bytes number size
short_found [] number size some byte also code = absurd (omega arith)
short_found (a ∷ []) number size some byte also code = elim (cases_lt a 128) [
  | inl low ↦ let two = code.two low in absurd (omega (arith, two.3))
  | inr high ↦
      let one = code.one high in
      let is = code_of-one a number high byte (omega (arith, one.0)) in
      record {
        some = code.some;
        spelled = ap (λ (xs : List ℕ). xs ++ []) (sym is) ∙ ap (λ (n : ℕ). code_of number ++ drop n (a ∷ [])) (sym one.1);
        sized = one.1 ∙ ap length (sym is);
      }
]
short_found (a ∷ b ∷ rest) number size some byte also code =
    let short = short_spelled a b number size rest byte also code in
    record { some = code.some; spelled = short.spelled; sized = short.sized }

module _ (gap position size : ℕ) where
  pub found_behind_one : (bytes : List ℕ) → 5 ≤ length bytes → 128 < get_or bytes 0 0 → get_or bytes 0 0 < 256 → get_or bytes 1 0 ≡ 129 → get_or bytes 2 0 < 256 → get_or bytes 3 0 < 256
      → gap ≡ get_or bytes 0 0 - 128 → IsShortCode (get_or bytes 2 0) (get_or bytes 3 0) position size → BeginsWithSingle bytes gap position (2 + size)
  found_behind_one [] long first byte second third fourth is code = absurd (omega arith)
  found_behind_one (a ∷ []) long first byte second third fourth is code = absurd (omega arith)
  found_behind_one (a ∷ b ∷ []) long first byte second third fourth is code = absurd (omega arith)
  found_behind_one (a ∷ b ∷ c ∷ []) long first byte second third fourth is code = absurd (omega arith)
  found_behind_one (a ∷ b ∷ c ∷ d ∷ rest) long first byte second third fourth is code =
      let short = short_spelled c d position size rest third fourth code in
      let gap_code : code_of gap ≡ a ∷ [] = code_of-one a gap (omega (arith, first)) byte (omega (arith, is, first, byte)) in
      let two_more : 2 + size ≡ suc (suc size) = omega arith in
      let one_code : code_of 1 ≡ b ∷ [] = one_is ∙ ap (λ (x : ℕ). x ∷ []) (sym second) in
      record {
        gap_some = omega (arith, is, first);
        position_some = code.some;
        spelled = rw (gap_code, one_code, two_more) (ap (λ (xs : List ℕ). a ∷ b ∷ xs) short.spelled);
        sized = rw (gap_code, one_code) (omega (arith, short.sized));
      }

  pub found_behind_two : (bytes : List ℕ) → 5 ≤ length bytes → 0 < get_or bytes 0 0 → get_or bytes 0 0 < 128 → 128 ≤ get_or bytes 1 0 → get_or bytes 1 0 < 256 → get_or bytes 2 0 ≡ 129
      → get_or bytes 3 0 < 256 → get_or bytes 4 0 < 256 → gap ≡ get_or bytes 0 0 * 128 + (get_or bytes 1 0 - 128) → IsShortCode (get_or bytes 3 0) (get_or bytes 4 0) position size
      → BeginsWithSingle bytes gap position (3 + size)
  found_behind_two [] long some low marked byte third fourth fifth is code = absurd (omega arith)
  found_behind_two (a ∷ []) long some low marked byte third fourth fifth is code = absurd (omega arith)
  found_behind_two (a ∷ b ∷ []) long some low marked byte third fourth fifth is code = absurd (omega arith)
  found_behind_two (a ∷ b ∷ c ∷ []) long some low marked byte third fourth fifth is code = absurd (omega arith)
  found_behind_two (a ∷ b ∷ c ∷ d ∷ []) long some low marked byte third fourth fifth is code = absurd (omega arith)
  found_behind_two (a ∷ b ∷ c ∷ d ∷ e ∷ rest) long some low marked byte third fourth fifth is code =
      let short = short_spelled d e position size rest fourth fifth code in
      let gap_code : code_of gap ≡ a ∷ b ∷ [] = code_of-two a b gap some low marked byte (omega (arith, is, marked)) in
      let three_more : 3 + size ≡ suc (suc (suc size)) = omega arith in
      let one_code : code_of 1 ≡ c ∷ [] = one_is ∙ ap (λ (x : ℕ). x ∷ []) (sym third) in
      record {
        gap_some = omega (arith, is, some);
        position_some = code.some;
        spelled = rw (gap_code, one_code, three_more) (ap (λ (xs : List ℕ). a ∷ b ∷ c ∷ xs) short.spelled);
        sized = rw (gap_code, one_code) (omega (arith, short.sized));
      }

-- ---- and where none is found, none is there

-- what follows from what a clause says of a `None`
pub IfNone_then : {X : Type 0} (r : Option X) {P Q : Type 0} → IfNone r P → (P → Q) → IfNone r Q
IfNone_then None h f = f h
IfNone_then (Some x) h f = tt

-- two bytes begin no code of one byte or two but that of 0
abbrev pub AreNoCode : ℕ → ℕ → Type 0
AreNoCode first second = (first ≡ 0) ⊎ ((first ≡ 128) ⊎ ((first < 128) × (second < 128)))

-- a code of one byte or two as its bytes
one_byte : (number : ℕ) → number < 128 → code_of number ≡ (128 + number) ∷ []
one_byte number low = code_of-one (128 + number) number (omega arith) (omega arith) (omega arith)

two_bytes : (number : ℕ) → 128 ≤ number → number < 2 ^ 14 → code_of number ≡ number / 128 ∷ (128 + number % 128) ∷ []
two_bytes number high fits = code_of-two (number / 128) (128 + number % 128) number (omega arith) (omega arith) (omega arith) (omega arith) (omega arith)

code_begins : (number first second : ℕ) (rest behind : List ℕ) → 0 < number → number < 2 ^ 14 → first ∷ second ∷ rest ≡ code_of number ++ behind → ¬ (AreNoCode first second)
code_begins number first second rest behind some fits e none = elim (cases_lt number 128) [
  | inl low ↦
      let all : first ∷ second ∷ rest ≡ (128 + number) ∷ behind = e ∙ ap (λ (xs : List ℕ). xs ++ behind) (one_byte number low) in
      let same : first ≡ 128 + number = cc in
      elim none [
        | inl none ↦ absurd (omega (arith, same, none))
        | inr (inl bare) ↦ absurd (omega (arith, same, bare, some))
        | inr (inr both) ↦ absurd (omega (arith, same, both.0))
      ]
  | inr high ↦
      let all : first ∷ second ∷ rest ≡ number / 128 ∷ (128 + number % 128) ∷ behind = e ∙ ap (λ (xs : List ℕ). xs ++ behind) (two_bytes number high fits) in
      let same : first ≡ number / 128 = cc in
      let also : second ≡ 128 + number % 128 = cc in
      elim none [
        | inl none ↦ absurd (omega (arith, same, none, high))
        | inr (inl bare) ↦ absurd (omega (arith, same, bare, fits))
        | inr (inr both) ↦ absurd (omega (arith, also, both.1))
      ]
]

pub none_begins : (bytes : List ℕ) (number : ℕ) (behind : List ℕ) → 0 < number → number < 2 ^ 14 → bytes ≡ code_of number ++ behind → ¬ (AreNoCode (get_or bytes 0 0) (get_or bytes 1 0))
none_begins [] number behind some fits e none = elim (cases_lt number 128) [
  | inl low ↦ absurd (omega (arith, ap length (e ∙ ap (λ (xs : List ℕ). xs ++ behind) (one_byte number low))))
  | inr high ↦ absurd (omega (arith, ap length (e ∙ ap (λ (xs : List ℕ). xs ++ behind) (two_bytes number high fits))))
]
none_begins (a ∷ []) number behind some fits e none = elim (cases_lt number 128) [
  | inl low ↦
      let all : a ∷ [] ≡ (128 + number) ∷ behind = e ∙ ap (λ (xs : List ℕ). xs ++ behind) (one_byte number low) in
      let same : a ≡ 128 + number = cc in
      elim none [
        | inl none ↦ absurd (omega (arith, same, none))
        | inr (inl bare) ↦ absurd (omega (arith, same, bare, some))
        | inr (inr both) ↦ absurd (omega (arith, same, both.0))
      ]
  | inr high ↦ absurd (omega (arith, ap length (e ∙ ap (λ (xs : List ℕ). xs ++ behind) (two_bytes number high fits))))
]
none_begins (a ∷ b ∷ rest) number behind some fits e none = code_begins number a b rest behind some fits e none

-- the gap has one byte
pub record IsBehindOne (bytes : List ℕ) : Type 0 where
  pub first : 128 < get_or bytes 0 0
  pub second : get_or bytes 1 0 ≡ 129
  pub position : ¬ (AreNoCode (get_or bytes 2 0) (get_or bytes 3 0))

-- the gap has two bytes
pub record IsBehindTwo (bytes : List ℕ) : Type 0 where
  pub some : 0 < get_or bytes 0 0
  pub first : get_or bytes 0 0 < 128
  pub second : 128 ≤ get_or bytes 1 0
  pub third : get_or bytes 2 0 ≡ 129
  pub position : ¬ (AreNoCode (get_or bytes 3 0) (get_or bytes 4 0))

module _ (gap position : ℕ) (behind : List ℕ) (gap_some : 0 < gap) (gap_fits : gap < 2 ^ 14) (position_some : 0 < position) (position_fits : position < 2 ^ 14) where
  pub shape_of : (bytes : List ℕ) → 5 ≤ length bytes → bytes ≡ single_bytes gap position ++ behind → IsBehindOne bytes ⊎ IsBehindTwo bytes
  shape_of [] long e = absurd (omega arith)
  shape_of (a ∷ []) long e = absurd (omega arith)
  shape_of (a ∷ b ∷ []) long e = absurd (omega arith)
  shape_of (a ∷ b ∷ c ∷ []) long e = absurd (omega arith)
  shape_of (a ∷ b ∷ c ∷ d ∷ []) long e = absurd (omega arith)
  shape_of (a ∷ b ∷ c ∷ d ∷ f ∷ rest) long e = elim (cases_lt gap 128) [
    | inl low ↦
        let all : a ∷ b ∷ c ∷ d ∷ f ∷ rest ≡ (128 + gap) ∷ 129 ∷ (code_of position ++ behind) =
        e ∙ ap (λ (xs : List ℕ). (xs ++ (code_of 1 ++ code_of position)) ++ behind) (one_byte gap low) ∙ ap (λ (xs : List ℕ). (128 + gap) ∷ ((xs ++ code_of position) ++ behind)) one_is in
        let front : a ≡ 128 + gap = cc in
        let next : b ≡ 129 = cc in
        let others : c ∷ d ∷ f ∷ rest ≡ code_of position ++ behind = cc in
        inl (record { first = omega (arith, front, gap_some); second = next; position = code_begins position c d (f ∷ rest) behind position_some position_fits others })
    | inr high ↦
        let all : a ∷ b ∷ c ∷ d ∷ f ∷ rest ≡ gap / 128 ∷ (128 + gap % 128) ∷ 129 ∷ (code_of position ++ behind) =
        e ∙ ap (λ (xs : List ℕ). (xs ++ (code_of 1 ++ code_of position)) ++ behind) (two_bytes gap high gap_fits) ∙ ap (λ (xs : List ℕ). gap / 128 ∷ (128 + gap % 128) ∷ ((xs ++ code_of position) ++ behind)) one_is in
        let front : a ≡ gap / 128 = cc in
        let next : b ≡ 128 + gap % 128 = cc in
        let one : c ≡ 129 = cc in
        let others : d ∷ f ∷ rest ≡ code_of position ++ behind = cc in
        inr (record { some = omega (arith, front, high); first = omega (arith, front, gap_fits); second = omega (arith, next); third = one; position = code_begins position d f rest behind position_some position_fits others })
  ]

-- ---- what a number leaves that was found, and a posting

pub short_within : (bytes : List ℕ) (number size : ℕ) → BeginsWithShort bytes number size → size ≤ length bytes
short_within bytes number size begins = omega (arith, begins.sized, ap length begins.spelled, length-append (code_of number) (drop size bytes))

module _ (bytes : List ℕ) (gap position size : ℕ) (begins : BeginsWithSingle bytes gap position size) where
  pub single_parts : bytes ≡ code_of gap ++ (code_of 1 ++ (code_of position ++ drop size bytes))
  single_parts =
      begins.spelled ∙ append_assoc (code_of gap) (code_of 1 ++ code_of position) (drop size bytes)
      ∙ ap (λ (xs : List ℕ). code_of gap ++ xs) (append_assoc (code_of 1) (code_of position) (drop size bytes))

  pub single_within : size ≤ length bytes
  single_within = omega (arith, begins.sized, ap length begins.spelled, length-append (single_bytes gap position) (drop size bytes))
