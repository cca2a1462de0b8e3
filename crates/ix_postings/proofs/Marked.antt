-- Marks over numbers, 64 a word: none, one more, and what a mark tells.
use Rattle.std.proofs.Common.{◌≡◌, ◌≢◌, ℕ, ◌+◌, ◌*◌, ◌/◌, ◌%◌, ◌^◌, ◌<◌, ◌≤◌, ◌↔◌, IsTrue, eqb, not, List, [], ◌∷◌, ◌++◌, length, get_or, set, replicate, Contains, bit_and, bit_or, min, sym, ap, ◌∙◌, subst, inl, inr, ⊎_elim, arith, w64}
use Rattle.std.specs.Int.{bit_at, trailing_zeros}
use Rattle.std.proofs.lemmas.Bool.{cases_eq, cases_lt, eq-eqb, eqb-true}
use Rattle.std.proofs.lemmas.Bool.Decides.{nat_tests}
use Rattle.std.proofs.lemmas.List.{get_or-replicate, get_or-set_same, get_or-set_other, get_or_past, length-replicate}
use Rattle.std.proofs.lemmas.List.Elements.{Contains-append_left, Contains-push, Contains-push_cases}
use Rattle.std.proofs.lemmas.Nat.{one_shl, pow_pos}
use Rattle.std.proofs.lemmas.Nat.Bits.{bit_at-zero, bit_at-lt, bit_at_set_same, bit_at_set_other, bit_at_and, bit_at-trailing_zeros, and_pow}
use Rattle.ix_postings.specs.TokenMarks.{AreMarked, ShareNumber, mark_of}
use Rattle.ix_text.proofs.AscendingLists.{contains_none}
use Rattle.ix_text.proofs.CollectionTold.{same_default}
use lib.Bits.{and_le_l}

-- the bit of a number in its word, as it is computed
abbrev pub bit_of : ℕ → ℕ
bit_of number = 1 * 2 ^ (number % 64) % 2 ^ 64

word_of : (count place none : ℕ) → get_or (replicate count none) place none ≡ none
word_of count place none =
    ⊎_elim
    (λ within. get_or-replicate count place none none within)
    (λ beyond. get_or_past (replicate count none) place none (omega (arith, beyond, length-replicate count none)))
    (cases_lt place count)

pub none_marked : (count : ℕ) → AreMarked (replicate count 0) []
none_marked count number =
    let empty : mark_of (replicate count 0) number ≡ 0 = ap (λ word. bit_at word (number % 64)) (word_of count (number / 64) 0) ∙ bit_at-zero (number % 64) in
    (λ is. absurd (omega (arith, is, empty)), λ has. absurd (contains_none number has))

-- ---- one more mark

marked_itself : (words : List ℕ) (number word : ℕ) → number / 64 < length words → mark_of (set words (number / 64) (bit_or word (bit_of number))) number ≡ 1
marked_itself words number word within =
    let low : number % 64 < 64 = omega arith in
    ap (λ w. bit_at w (number % 64)) (get_or-set_same words (number / 64) (bit_or word (bit_of number)) 0 within) ∙ bit_at_set_same w64 word (number % 64) low

others_kept : (words : List ℕ) (number other word : ℕ) → number / 64 < length words → word ≡ get_or words (number / 64) 0 → other ≢ number → mark_of (set words (number / 64) (bit_or word (bit_of number))) other ≡ mark_of words other
others_kept words number other word within is apart =
    elim (cases_eq (other / 64) (number / 64)) [
      | inl one_word ↦
          let low : number % 64 < 64 = omega arith in
          let bits_differ : other % 64 ≢ number % 64 = λ same. apart (omega (arith, same, one_word)) in
          ap (λ i. bit_at (get_or (set words (number / 64) (bit_or word (bit_of number))) i 0) (other % 64)) one_word
          ∙ ap (λ w. bit_at w (other % 64)) (get_or-set_same words (number / 64) (bit_or word (bit_of number)) 0 within)
          ∙ bit_at_set_other w64 word (number % 64) low (other % 64) bits_differ
          ∙ ap (λ w. bit_at w (other % 64)) is
          ∙ ap (λ i. bit_at (get_or words i 0) (other % 64)) (sym one_word)
      | inr elsewhere ↦ ap (λ w. bit_at w (other % 64)) (get_or-set_other words (number / 64) (other / 64) (bit_or word (bit_of number)) 0 elsewhere)
    ]

pub one_marked : (end : ℕ) (words : List ℕ) (numbers : List ℕ) (number word : ℕ) → end ≡ length words * 64 → number < end → word ≡ get_or words (number / 64) word → AreMarked words numbers
    → AreMarked (set words (number / 64) (bit_or word (bit_of number))) (numbers ++ number ∷ [])
one_marked end words numbers number word long below read are other =
    let inside : number / 64 < length words = omega arith in
    let is : word ≡ get_or words (number / 64) 0 = read ∙ same_default words (number / 64) word 0 inside in
    elim (cases_eq other number) [
      | inl same ↦
          let marked : mark_of (set words (number / 64) (bit_or word (bit_of number))) other ≡ 1 = ap (mark_of (set words (number / 64) (bit_or word (bit_of number)))) same ∙ marked_itself words number word inside in
          (λ _. subst (Contains (numbers ++ number ∷ [])) (sym same) (Contains-push numbers number), λ _. marked)
      | inr apart ↦
          let kept = others_kept words number other word inside is apart in (
            λ marked. Contains-append_left numbers (number ∷ []) other ((are other).0 (sym kept ∙ marked)),
            λ has. kept ∙ (are other).1 (elim (Contains-push_cases numbers number other has) [ inl before ↦ before | inr last ↦ absurd (apart (sym last)) ]),
          )
    ]

-- ---- what a mark tells

mark_read : (words : List ℕ) (number word : ℕ) → number / 64 < length words → word ≡ get_or words (number / 64) word → bit_and word (bit_of number) ≡ mark_of words number * 2 ^ (number % 64)
mark_read words number word inside read =
    let is : word ≡ get_or words (number / 64) 0 = read ∙ same_default words (number / 64) word 0 inside in
    ap (bit_and word) (one_shl (number % 64) 64 (omega arith)) ∙ and_pow word (number % 64) ∙ ap (λ w. bit_at w (number % 64) * 2 ^ (number % 64)) is

pub free_if_unmarked : (end : ℕ) (words : List ℕ) (numbers : List ℕ) (number word : ℕ) → end ≡ length words * 64 → number < end → word ≡ get_or words (number / 64) word → AreMarked words numbers
    → IsTrue (eqb (bit_and word (bit_of number)) 0) ↔ ¬ (Contains numbers number)
free_if_unmarked end words numbers number word long below read are =
    let inside : number / 64 < length words = omega arith in
    let place = number % 64 in
    let tested = mark_read words number word inside read in
    let told = are number in
    elim (cases_eq (mark_of words number) 1) [
      | inl marked ↦
          let one : bit_and word (bit_of number) ≡ 1 * 2 ^ place = tested ∙ ap (λ m. m * 2 ^ place) marked in
          let some : 0 < 2 ^ place = pow_pos place in
          (λ free. let none = eqb-true (bit_and word (bit_of number)) 0 free in absurd (omega arith), λ absent. absurd (absent (told.0 marked)))
      | inr unmarked ↦
          let low : mark_of words number < 2 = bit_at-lt (get_or words (number / 64) 0) place in
          let zero_mark : mark_of words number ≡ 0 = omega arith in
          let none : bit_and word (bit_of number) ≡ 0 * 2 ^ place = tested ∙ ap (λ m. m * 2 ^ place) zero_mark in
          (λ free. λ has. unmarked (told.1 has), λ absent. eq-eqb (bit_and word (bit_of number)) 0 (omega arith))
    ]

some_set : (word : ℕ) → word ≢ 0 → IsTrue (not (eqb word 0))
some_set word some = grind (arith, nat_tests)

set_some : (word : ℕ) → IsTrue (not (eqb word 0)) → word ≢ 0
set_some word is none = grind (arith, nat_tests)

pub set_if_marked : (end : ℕ) (words : List ℕ) (numbers : List ℕ) (number word : ℕ) → end ≡ length words * 64 → number < end → word ≡ get_or words (number / 64) word → AreMarked words numbers
    → IsTrue (not (eqb (bit_and word (bit_of number)) 0)) ↔ Contains numbers number
set_if_marked end words numbers number word long below read are =
    let free = free_if_unmarked end words numbers number word long below read are in
    let told = are number in
    let tested = mark_read words number word (omega arith) read in
    elim (cases_eq (mark_of words number) 1) [
      | inl marked ↦
          let one : bit_and word (bit_of number) ≡ 1 * 2 ^ (number % 64) = tested ∙ ap (λ m. m * 2 ^ (number % 64)) marked in
          let some : 0 < 2 ^ (number % 64) = pow_pos (number % 64) in
          (λ _. told.0 marked, λ _. some_set (bit_and word (bit_of number)) (λ none. omega (arith, one, some, none)))
      | inr unmarked ↦
          let absent : ¬ (Contains numbers number) = λ has. unmarked (told.1 has) in
          (λ set. absurd (set_some (bit_and word (bit_of number)) set (eqb-true (bit_and word (bit_of number)) 0 (free.1 absent))), λ has. absurd (absent has))
    ]

-- ---- marks of two

-- no number of the words before a place is marked in both
abbrev pub ApartBefore : List ℕ → List ℕ → ℕ → Type 0
ApartBefore words others end = (place : ℕ) → place < end → bit_and (get_or words place 0) (get_or others place 0) ≡ 0

-- a bit that both words have is shared
pub share_bit : (words others one other : List ℕ) (place : ℕ) → bit_and (get_or words place 0) (get_or others place 0) ≢ 0 → get_or words place 0 < 2 ^ 64 → AreMarked words one → AreMarked others other → ShareNumber one other
share_bit words others one other place some fits are others_are =
    let word = get_or words place 0 in
    let its = get_or others place 0 in
    let low : bit_and word its < 2 ^ 64 = let le = and_le_l word its in omega arith in
    let above : 0 < bit_and word its = omega (arith, some) in
    let lowest = bit_at-trailing_zeros w64 (bit_and word its) above low in
    let bit : ℕ = trailing_zeros w64 (bit_and word its) in
    let within : bit < 64 = lowest.0 in
    let both : min (bit_at word bit) (bit_at its bit) ≡ 1 = sym (bit_at_and word its bit) ∙ lowest.1 in
    let first : bit_at word bit < 2 = bit_at-lt word bit in
    let second : bit_at its bit < 2 = bit_at-lt its bit in
    let number : ℕ = place * 64 + bit in
    let number_place : number / 64 ≡ place = omega arith in
    let number_bit : number % 64 ≡ bit = omega arith in
    let set_here : bit_at word bit ≡ 1 = omega (arith, both, first, second) in
    let set_there : bit_at its bit ≡ 1 = omega (arith, both, first, second) in (
      number,
      (are number).0 (ap (λ p. bit_at (get_or words p 0) (number % 64)) number_place ∙ ap (bit_at word) number_bit ∙ set_here),
      (others_are number).0 (ap (λ p. bit_at (get_or others p 0) (number % 64)) number_place ∙ ap (bit_at its) number_bit ∙ set_there),
    )

-- behind the last word no number is marked
marked_within : (words : List ℕ) (number : ℕ) → mark_of words number ≡ 1 → number / 64 < length words
marked_within words number marked =
    ⊎_elim
    (λ within. within)
    (λ beyond.
    let none : mark_of words number ≡ 0 = ap (λ word. bit_at word (number % 64)) (get_or_past words (number / 64) 0 (omega (arith, beyond))) ∙ bit_at-zero (number % 64) in
    absurd (omega (arith, none, marked)))
    (cases_lt (number / 64) (length words))

-- words without a bit in common share no number
pub share_none : (words others one other : List ℕ) (end : ℕ) → min (length words) (length others) ≤ end → ApartBefore words others end → AreMarked words one → AreMarked others other → ¬ (ShareNumber one other)
share_none words others one other end long apart are others_are (number, has, has_too) =
    let marked : mark_of words number ≡ 1 = (are number).1 has in
    let marked_too : mark_of others number ≡ 1 = (others_are number).1 has_too in
    let within = marked_within words number marked in
    let within_too = marked_within others number marked_too in
    let place : ℕ = number / 64 in
    let bit : ℕ = number % 64 in
    let none : bit_at (bit_and (get_or words place 0) (get_or others place 0)) bit ≡ 0 = ap (λ word. bit_at word bit) (apart place (omega (arith, long, within, within_too))) ∙ bit_at-zero bit in
    let both = bit_at_and (get_or words place 0) (get_or others place 0) bit in
    absurd (omega (arith, both, none, marked, marked_too))
