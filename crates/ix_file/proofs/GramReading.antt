-- What GRAMS has of a gram, and of which characters a gram of terms is.
use Rattle.std.proofs.Common.{◌≡◌, ℕ, ◌<◌, ◌≤◌, List, [], ◌∷◌, ◌++◌, length, slice_get, Some, All, IsUtf8, subst, ◌∙◌, arith, length-append}
use Rattle.std.proofs.lemmas.List.{append_assoc}
use Rattle.std.proofs.lemmas.List.Elements.{All-head}
use Rattle.std.proofs.lemmas.Option.{get_or_from_slice_get, slice_get_within}
use Rattle.ix_text.specs.Parts.{GramEntry}
use Rattle.ix_vbyte.specs.Code.{code_of}
use Rattle.ix_vbyte.specs.Postings.{codes_of}
use Rattle.ix_vbyte.specs.Texts.{counted}
use Rattle.ix_vbyte.proofs.Values.{some_code_byte}
use Rattle.ix_index_text.specs.Grams.{IsGramOfTerm}
use Rattle.ix_file.specs.OpenedGrams.{IsRightEntry, gap_codes, gram_bytes}
use Rattle.ix_file.proofs.GramTexts.{HasCharacters, gram_characters}
use Rattle.ix_index_text.specs.GramTables.{entry}

pub bytes_split : (entry : GramEntry) (other : List ℕ) → gram_bytes entry ++ other ≡ counted entry.gram ++ (code_of (length entry.numbers) ++ (gap_codes entry.numbers ++ other))
bytes_split entry other =
    append_assoc (counted entry.gram ++ code_of (length entry.numbers)) (gap_codes entry.numbers) other
    ∙ append_assoc (counted entry.gram) (code_of (length entry.numbers)) (gap_codes entry.numbers ++ other)

pub text_is : (texts : List (List ℕ)) (n : ℕ) (text : List ℕ) → All IsUtf8 texts → slice_get texts n ≡ Some text → IsUtf8 text
text_is texts n text all is =
    subst IsUtf8 (get_or_from_slice_get texts n text [] is) (all n [] (slice_get_within texts n text is))

first_right : (terms : List (List ℕ)) (gram : List ℕ) (numbers : List ℕ) → 0 < length numbers → All (IsGramOfTerm terms gram) numbers → (n : ℕ) × IsGramOfTerm terms gram n
first_right terms gram [] some all = absurd (omega arith)
first_right terms gram (n ∷ numbers) some all = (n, All-head (IsGramOfTerm terms gram) n numbers all)

-- a right entry has a number
pub some_number : (terms : List (List ℕ)) (entry : GramEntry) → IsRightEntry terms entry → (n : ℕ) × IsGramOfTerm terms entry.gram n
some_number terms entry right = first_right terms entry.gram entry.numbers right.some right.numbers.right

-- a gram of a term has three characters
pub term_characters : (terms : List (List ℕ)) (gram : List ℕ) (n : ℕ) → All IsUtf8 terms → IsGramOfTerm terms gram n → HasCharacters gram
term_characters terms gram n texts is = gram_characters is.term gram (text_is terms n is.term texts is.numbered) is.windowed

-- a code has a byte at least
pub long_codes : (xs : List ℕ) → length xs ≤ length (codes_of xs)
long_codes [] = omega arith
long_codes (x ∷ xs) = omega (arith, long_codes xs, some_code_byte x, length-append (code_of x) (codes_of xs))
