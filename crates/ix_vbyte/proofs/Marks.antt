-- The top bits of some bytes as the bits of one number, and where its lowest ones stand.
use Rattle.std.proofs.Common.{◌≡◌, ◌≢◌, ℕ, zero, suc, ◌+◌, ◌-◌, ◌*◌, ◌/◌, ◌%◌, ◌^◌, ◌<◌, ◌≤◌, cond, ltb, List, [], ◌∷◌, ◌++◌, length, get_or, bit_and, refl, sym, ap, ap₂, ◌∙◌, subst, ⊎_elim, arith, w64}
use Rattle.std.specs.Int.{bit_at, trailing_zeros, from_le_bytes, bytes_low_first, byte_at}
use Rattle.std.proofs.lemmas.Bool.{lt-ltb, le-ltb, cases_lt, cases_eq, cases_order}
use Rattle.std.proofs.lemmas.Nat.{and_block, le_bytes_8}
use Rattle.std.proofs.lemmas.Nat.Bits.{bit_at-zero, bit_at-pow_same, bit_at-pow_other, bit_at_cat_low, bit_at_cat_high, bit_at-trailing_zeros, and_pow}
use Rattle.std.proofs.Math.Nat.{div-div-eq-div-mul, pow-suc}
use Rattle.ix_vbyte.specs.Ends.{end_of, marks_of}
use Rattle.ix_vbyte.proofs.Ends.{end_of-none, unmarked_first, marked_first}
use lib.Bits.{and_zero_r}

-- what is asked of a mark: it is the bit `place` of its group
pub record IsMark (width mark place : ℕ) : Type 0 where
  pub within : place < width
  pub is : mark ≡ 2 ^ place
  pub some : 0 < mark
  pub fits : mark < 2 ^ width

pub low_marks : (width mark byte : ℕ) (bytes : List ℕ) → byte < 128 → marks_of width mark (byte ∷ bytes) ≡ marks_of width mark bytes * 2 ^ width + 0
unfolding marks_of
low_marks width mark byte bytes low = ap (λ b. marks_of width mark bytes * 2 ^ width + cond b 0 mark) (lt-ltb byte 128 low)

pub high_marks : (width mark byte : ℕ) (bytes : List ℕ) → 128 ≤ byte → marks_of width mark (byte ∷ bytes) ≡ marks_of width mark bytes * 2 ^ width + mark
unfolding marks_of
high_marks width mark byte bytes high = ap (λ b. marks_of width mark bytes * 2 ^ width + cond b 0 mark) (le-ltb byte 128 high)

pub no_marks : (width mark : ℕ) → marks_of width mark [] ≡ 0
unfolding marks_of
no_marks width mark = refl

power_some : (width mark : ℕ) → mark < 2 ^ width → 0 < 2 ^ width
power_some width mark fits = omega arith

-- some byte has the top bit
some_rest : (width mark byte : ℕ) (bytes : List ℕ) → byte < 128 → 0 < marks_of width mark (byte ∷ bytes) → 0 < marks_of width mark bytes
some_rest width mark byte bytes low some =
    ⊎_elim
    (λ none.
    let empty : marks_of width mark (byte ∷ bytes) ≡ 0 = low_marks width mark byte bytes low ∙ ap (λ n. n * 2 ^ width + 0) none ∙ (let zero_times : 0 * 2 ^ width + 0 ≡ 0 = omega arith in zero_times) in
    absurd (omega arith))
    (λ any. omega arith)
    (cases_eq (marks_of width mark bytes) 0)

-- ---- the lowest bit
abbrev pub IsLowest : ℕ → ℕ → Type 0
IsLowest number place = (bit_at number place ≡ 1) × ((i : ℕ) → i < place → bit_at number i ≡ 0)

-- the first byte with the top bit, as the group of the lowest bit and as the end of the first code
pub record FirstMark (width place : ℕ) (marks end : ℕ) : Type 0 where
  pub group : ℕ
  pub end_is : end ≡ group + 1
  pub lowest : IsLowest marks (width * group + place)

here : (width mark place rest : ℕ) → IsMark width mark place → IsLowest (rest * 2 ^ width + mark) (width * 0 + place)
here width mark place rest m =
    let at : place ≡ width * 0 + place = omega arith in
    let is : mark ≡ 2 ^ place = m.is in
    let within : place < width = m.within in
    subst (IsLowest (rest * 2 ^ width + mark)) at (
      bit_at_cat_low rest width mark place within ∙ ap (λ n. bit_at n place) is ∙ bit_at-pow_same place,
      λ i below. bit_at_cat_low rest width mark i (omega arith) ∙ ap (λ n. bit_at n i) is ∙ bit_at-pow_other place i (let other : i ≢ place = omega arith in other),
    )

later : (width place rest group : ℕ) → 0 < 2 ^ width → IsLowest rest (width * group + place) → IsLowest (rest * 2 ^ width + 0) (width * (group + 1) + place)
later width place rest group any lowest =
    let at : width * (group + 1) + place - width ≡ width * group + place = omega arith in
    let high : width ≤ width * (group + 1) + place = omega arith in (
      bit_at_cat_high rest width 0 (width * (group + 1) + place) any high ∙ ap (bit_at rest) at ∙ lowest.0,
      λ i below.
          ⊎_elim
          (λ inside. bit_at_cat_low rest width 0 i inside ∙ bit_at-zero i)
          (λ outside. bit_at_cat_high rest width 0 i any outside ∙ lowest.1 (i - width) (omega arith))
          (cases_lt i width),
    )

first_mark : (width mark place : ℕ) → IsMark width mark place → (bytes behind : List ℕ) → 0 < marks_of width mark bytes → FirstMark width place (marks_of width mark bytes) (end_of 1 (bytes ++ behind))
first_mark width mark place m [] behind some = absurd (let none = no_marks width mark in omega arith)
first_mark width mark place m (byte ∷ bytes) behind some =
    ⊎_elim
    (λ low.
    let so_far = first_mark width mark place m bytes behind (some_rest width mark byte bytes low some) in
    record {
      group = so_far.group + 1;
      end_is = unmarked_first 0 byte (bytes ++ behind) low ∙ ap suc so_far.end_is ∙ (let one_more : suc (so_far.group + 1) ≡ so_far.group + 1 + 1 = omega arith in one_more);
      lowest = subst (λ n. IsLowest n (width * (so_far.group + 1) + place)) (sym (low_marks width mark byte bytes low)) (later width place (marks_of width mark bytes) so_far.group (power_some width mark m.fits) so_far.lowest);
    })
    (λ high. record {
      group = 0;
      end_is = marked_first 0 byte (bytes ++ behind) high ∙ ap suc (end_of-none (bytes ++ behind));
      lowest = subst (λ n. IsLowest n (width * 0 + place)) (sym (high_marks width mark byte bytes high)) (here width mark place (marks_of width mark bytes) m);
    })
    (cases_lt byte 128)

-- the count of trailing zeros is the place of the lowest bit
zeros_are : (number place : ℕ) → 0 < number → number < 2 ^ 64 → IsLowest number place → trailing_zeros w64 number ≡ place
zeros_are number place some fits lowest =
    let z = bit_at-trailing_zeros w64 number some fits in
    ⊎_elim
    (λ same. same)
    (λ other. ⊎_elim
    (λ below. let none : bit_at number (trailing_zeros w64 number) ≡ 0 = lowest.1 (trailing_zeros w64 number) below in let one = z.1 in absurd (omega arith))
    (λ above. let none : bit_at number place ≡ 0 = z.2 place above in let one = lowest.0 in absurd (omega arith))
    other)
    (cases_order (trailing_zeros w64 number) place)

word_mark : IsMark 8 128 7
word_mark = record { within = omega arith; is = refl; some = omega arith; fits = omega arith }

-- where the first code ends
pub first_end : (bytes behind : List ℕ) (marks : ℕ) → marks ≡ marks_of 8 128 bytes → 0 < marks → marks < 2 ^ 64 → end_of 1 (bytes ++ behind) ≡ trailing_zeros w64 marks / 8 + 1
first_end bytes behind marks is some fits =
    let found = first_mark 8 128 7 word_mark bytes behind (omega arith) in
    let zeros : trailing_zeros w64 marks ≡ 8 * found.group + 7 = zeros_are marks (8 * found.group + 7) some fits (subst (λ n. IsLowest n (8 * found.group + 7)) (sym is) found.lowest) in
    let end = found.end_is in
    omega arith

-- ---- the marks by masks
-- the top bits of as many bytes
abbrev tops_of : ℕ → ℕ
tops_of zero = 0
tops_of (suc count) = tops_of count * 2 ^ 8 + 128

-- as many bytes of a number, the lowest first
abbrev pub bytes_of : ℕ → ℕ → List ℕ
bytes_of zero number = []
bytes_of (suc count) number = (number % 256) ∷ bytes_of count (number / 256)

pub top_of_byte : (byte : ℕ) → byte < 256 → bit_and byte 128 ≡ cond (ltb byte 128) 0 128
top_of_byte byte fits =
    and_pow byte 7
    ∙ ⊎_elim
    (λ low. let none : byte / 128 % 2 * 128 ≡ 0 = omega arith in none ∙ sym (ap (λ b. cond {A = ℕ} b 0 128) (lt-ltb byte 128 low)))
    (λ high. let one : byte / 128 % 2 * 128 ≡ 128 = omega arith in one ∙ sym (ap (λ b. cond {A = ℕ} b 0 128) (le-ltb byte 128 high)))
    (cases_lt byte 128)

pub masked : (count number : ℕ) → bit_and number (tops_of count) ≡ marks_of 8 128 (bytes_of count number)
unfolding marks_of
masked zero number = and_zero_r number
masked (suc count) number =
    let split : number ≡ number / 256 * 2 ^ 8 + number % 256 = omega arith in
    ap (λ n. bit_and n (tops_of count * 2 ^ 8 + 128)) split
    ∙ and_block 8 (number / 256) (tops_of count) (number % 256) 128 (omega arith) (omega arith)
    ∙ ap₂ (λ m n. m * 2 ^ 8 + n) (masked count (number / 256)) (top_of_byte (number % 256) (omega arith))

byte_from : (i number : ℕ) → byte_at i number ≡ number / 256 ^ i % 256
byte_from zero number = let whole : number / 256 ^ 0 ≡ number = omega arith in ap (λ n. n % 256) (sym whole)
byte_from (suc i) number = refl

bytes_from : (count i number : ℕ) → bytes_low_first i count number ≡ bytes_of count (number / 256 ^ i)
bytes_from zero i number = refl
bytes_from (suc count) i number =
    ap₂ (λ b bs. b ∷ bs) (byte_from i number)
    (bytes_from count (suc i) number ∙ ap (bytes_of count) (ap (λ n. number / n) (pow-suc 256 i) ∙ sym (div-div-eq-div-mul number (256 ^ i) 256)))

-- the bytes of a number read from eight bytes are these
pub word_bytes : (word : List ℕ) (number : ℕ) → length word ≡ 8 → ((i : ℕ) → get_or word i 0 < 256) → number ≡ from_le_bytes w64 word → bytes_of 8 number ≡ word
word_bytes word number long bytes is =
    let whole : number / 256 ^ 0 ≡ number = omega arith in
    ap (bytes_of 8) (sym whole) ∙ sym (bytes_from 8 0 number) ∙ le_bytes_8 word number long bytes is

pub marks_of_word : (word : List ℕ) (number : ℕ) → length word ≡ 8 → ((i : ℕ) → get_or word i 0 < 256) → number ≡ from_le_bytes w64 word → bit_and number 0x8080_8080_8080_8080 ≡ marks_of 8 128 word
marks_of_word word number long bytes is = masked 8 number ∙ ap (marks_of 8 128) (word_bytes word number long bytes is)
