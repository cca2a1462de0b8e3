-- The line of a removal, cut at its TAB and its LF.
use Rattle.std.proofs.Common.{◌≡◌, ◌≢◌, inl, inr, ℕ, ◌<◌, ◌≤◌, ◌^◌, Result, Ok, List, [], ◌∷◌, ◌++◌, length, get_or, Option, Bor, Contains, refl, sym, ap, ◌∙◌, subst, arith, append_assoc}
use Rattle.std.specs.Prelude.{IsUtf8, MatchOption, decimal}
use Rattle.std.proofs.lemmas.Fmt.{IsAscii-decimal, decimal-digits_value, decimal_digit, decimal_injective, decimal_is_IsNumeral, decimal_nonempty, first_decimal}
use Rattle.std.proofs.lemmas.List.{get_or_default}
use Rattle.std.proofs.lemmas.List.Elements.{All-contains, Contains-append_cases, Contains-append_right}
use Rattle.std.proofs.lemmas.Str.{IsUtf8-append, IsUtf8-from_ascii}
use Rattle.std.proofs.lemmas.Str.Ascii.{IsAscii-cons, IsAscii-nil}
use Rattle.std.proofs.lemmas.Str.Parse.{IsNumeralModel, digit_at, numerals_by_value, parse_plain, tells_digits}
use Rattle.std.specs.Int.{IsInRange}
use Rattle.std.specs.Result.{OkIff}
use Rattle.std.specs.Str.Parse.{AllDigits, ParsesUnsigned, digits_value}
use Rattle.std.proofs.lemmas.Str.Pattern.{IsSplitOnceResult, split_after}
use Rattle.ix_text.specs.CollectionFaults.{IsCutAtFirst}
use Rattle.ix_text.specs.Collections.{IsNameByte}
use Rattle.ix_text.proofs.AscendingLists.{contains_cases, contains_first, contains_later}
use Rattle.ix_removals.specs.RemovalsText.{IsRemoval, Removal, line_of}

-- ---- one place to cut

same_split : (b : ℕ) (xs ys r t : List ℕ) → ¬ (Contains xs b) → ¬ (Contains ys b) → xs ++ b ∷ r ≡ ys ++ b ∷ t → (xs ≡ ys) × (r ≡ t)
same_split b [] [] r t nx ny e = (refl, cc)
same_split b [] (y ∷ ys) r t nx ny e = let is : b ≡ y = cc in absurd (ny (subst (λ (n : ℕ). Contains (y ∷ ys) n) (sym is) (contains_first y ys)))
same_split b (x ∷ xs) [] r t nx ny e = let is : b ≡ x = cc in absurd (nx (subst (λ (n : ℕ). Contains (x ∷ xs) n) (sym is) (contains_first x xs)))
same_split b (x ∷ xs) (y ∷ ys) r t nx ny e =
    let rest : xs ++ b ∷ r ≡ ys ++ b ∷ t = cc in
    let heads : x ≡ y = cc in
    let tails = same_split b xs ys r t (λ h. nx (contains_later x xs b h)) (λ h. ny (contains_later y ys b h)) rest in
    (cc tails.0, tails.1)

-- ---- the bytes of a line

-- a line without its LF
abbrev pub inside : Removal → List ℕ
inside removal = decimal removal.below ++ 9 ∷ removal.name

pub line_inside : (removal : Removal) (rest : List ℕ) → line_of removal ++ rest ≡ inside removal ++ 10 ∷ rest
line_inside removal rest = simp append_assoc

digits_above : (number byte : ℕ) → number < 2 ^ 64 → byte < 48 → ¬ (Contains (decimal number) byte)
digits_above number byte fits low (k, within, is) =
    let digit = digit_at (decimal number) k (decimal_is_IsNumeral number fits).0.1 within in
    let at : get_or (decimal number) k 0 ≡ byte = get_or_default (decimal number) k 0 byte within ∙ is in
    omega (arith, digit.0)

no_feed : (removal : Removal) → IsRemoval removal → ¬ (Contains (inside removal) 10)
no_feed removal is has =
    elim (Contains-append_cases (decimal removal.below) (9 ∷ removal.name) 10 has) [
      | inl digits ↦ digits_above removal.below 10 is.fits (omega arith) digits
      | inr later ↦ elim (contains_cases 9 removal.name 10 later) [
        | inl same ↦ omega arith
        | inr name ↦ (All-contains IsNameByte removal.name 10 is.name.unbroken name).1 refl
      ]
    ]

pub inside_utf8 : (removal : Removal) → IsRemoval removal → IsUtf8 (inside removal)
inside_utf8 removal is =
    IsUtf8-append (decimal removal.below) (9 ∷ removal.name)
    (IsUtf8-from_ascii (decimal removal.below) (IsAscii-decimal removal.below is.fits))
    (IsUtf8-append (9 ∷ []) removal.name (IsUtf8-from_ascii (9 ∷ []) (IsAscii-cons 9 [] (omega arith) IsAscii-nil)) is.name.characters)

some_feed : (removal : Removal) (rest : List ℕ) → Contains (line_of removal ++ rest) 10
some_feed removal rest = rw (line_inside removal rest) (Contains-append_right (inside removal) (10 ∷ rest) 10 (contains_first 10 rest))

-- ---- reading

-- a line of a removal has an LF
pub line_ends : (bytes : List ℕ) → ¬ (Contains bytes 10) → (removal : Removal) (rest : List ℕ) → bytes ≢ line_of removal ++ rest
line_ends bytes none removal rest is = none (subst (λ (l : List ℕ). Contains l 10) (sym is) (some_feed removal rest))

-- what is before the first LF is the line, and what is behind it follows the line
pub line_cut : (bytes line rest : List ℕ) → IsCutAtFirst bytes 10 line rest → (removal : Removal) (next : List ℕ) → IsRemoval removal → bytes ≡ line_of removal ++ next → (line ≡ inside removal) × (rest ≡ next)
line_cut bytes line rest cut removal next is joined =
    same_split 10 line (inside removal) rest next cut.first (no_feed removal is) (sym cut.joined ∙ joined ∙ line_inside removal next)

-- the number of a line is before its TAB, and the name is behind it
pub line_split : (line : List ℕ) (found : Option (Bor (List ℕ) × Bor (List ℕ))) → IsSplitOnceResult 9 line found → (removal : Removal) → IsRemoval removal → line ≡ inside removal
    → MatchOption found ⊥ (λ x. (x.0.now ≡ decimal removal.below) × (x.1.now ≡ removal.name))
line_split line found split removal is whole =
    split_after 9 line (decimal removal.below) removal.name found split (omega arith) whole
    (λ k within same. digits_above removal.below 9 is.fits (omega arith) (k, within, get_or_default (decimal removal.below) k 9 0 within ∙ same))

-- a line that was cut at its LF and its TAB
pub line_joined : (bytes line rest digits name : List ℕ) (number : ℕ) → IsCutAtFirst bytes 10 line rest → line ≡ digits ++ 9 ∷ name → digits ≡ decimal number → let removal : Removal = record { name = name; below = number } in bytes ≡ line_of removal ++ rest
line_joined bytes line rest digits name number cut parts is =
    let removal : Removal = record { name = name; below = number } in
    cut.joined ∙ ap (λ l. l ++ 10 ∷ rest) (parts ∙ ap (λ l. l ++ 9 ∷ name) is) ∙ sym (line_inside removal rest)

-- two lines that begin the same bytes are one
pub same_line : (one other : Removal) (rest next : List ℕ) → IsRemoval one → IsRemoval other → line_of one ++ rest ≡ line_of other ++ next → (one ≡ other) × (rest ≡ next)
same_line one other rest next is also whole =
    let lines = same_split 10 (inside one) (inside other) rest next (no_feed one is) (no_feed other also) (sym (line_inside one rest) ∙ whole ∙ line_inside other next) in
    let parts = same_split 9 (decimal one.below) (decimal other.below) one.name other.name (digits_above one.below 9 is.fits (omega arith)) (digits_above other.below 9 also.fits (omega arith)) lines.0 in
    let same_below : one.below ≡ other.below = decimal_injective one.below other.below is.fits also.fits parts.0 in
    let same_name : one.name ≡ other.name = parts.1 in
    (same_removal one.name other.name one.below other.below same_name same_below, lines.1)
  where
    same_removal : (name text : List ℕ) (below number : ℕ) → name ≡ text → below ≡ number → let first : Removal = record { name = name; below = below } in let second : Removal = record { name = text; below = number } in first ≡ second
    same_removal name text below number same_name same_below = rw (same_name, same_below) refl

-- ---- the number

own : IsNumeralModel (AllDigits 10) (digits_value 10)
own = numerals_by_value (AllDigits 10) tells_digits

-- the digits of a number that is not 0 begin with one that is not 0
pub first_digit : (number : ℕ) → 0 < number → number < 2 ^ 64 → IsInRange 49 57 (get_or (decimal number) 0 0)
first_digit number some fits =
    let digit = digit_at (decimal number) 0 (decimal_is_IsNumeral number fits).0.1 (decimal_nonempty number fits) in
    let above = first_decimal number some fits in
    (omega arith, omega (arith, digit.1))

-- what is read of digits that begin so is the number whose digits they are
pub number_read : {E : Type 0} (digits : List ℕ) (read : Result ℕ E) (number : ℕ) → ParsesUnsigned 64 10 digits read → read ≡ Ok number → IsInRange 49 57 (get_or digits 0 0) → (0 < number) × (number < 2 ^ 64) × (digits ≡ decimal number)
number_read {E} digits read number parses is first =
    let no_sign : get_or digits 0 0 ≢ 43 = λ sign. let low : 49 ≤ get_or digits 0 0 = first.0 in omega arith in
    let plain = parse_plain own 64 digits read parses no_sign in
    let good : Result ℕ E = Ok number in
    let tells : Result ℕ E → Type 0 = λ r. OkIff r (AllDigits 10 digits × (0 < length digits) × (digits_value 10 digits < 2 ^ 64)) (digits_value 10 digits) in
    let at : tells good = subst tells is plain in
    let value : number ≡ digits_value 10 digits = at.1 in
    let fits : digits_value 10 digits < 2 ^ 64 = at.0.2 in
    let no_zero : get_or digits 0 0 ≡ 48 → length digits ≡ 1 = λ zero. let low : 49 ≤ get_or digits 0 0 = first.0 in absurd (omega arith) in
    let whole : decimal (digits_value 10 digits) ≡ digits = decimal-digits_value own digits at.0.0 at.0.1 no_zero fits in
    let same : digits ≡ decimal number = sym whole ∙ ap decimal (sym value) in
    let some : ¬ (number ≡ 0) = λ none.
    let begin : get_or digits 0 0 ≡ get_or (decimal 0) 0 0 = ap (λ (l : List ℕ). get_or l 0 0) (same ∙ ap decimal none) in
    let zero : get_or (decimal 0) 0 0 ≡ 48 = ap (λ (l : List ℕ). get_or l 0 0) (decimal_digit 0 (omega arith)) in
    let low : 49 ≤ get_or digits 0 0 = first.0 in
    omega arith in
    (omega arith, omega arith, same)
