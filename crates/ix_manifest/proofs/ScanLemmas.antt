-- What is read of the fields of a line.
use Rattle.std.proofs.Common.{◌≡◌, ◌≢◌, ℕ, suc, zero, ◌/◌, ◌%◌, ◌^◌, ◌<◌, List, [], ◌∷◌, ◌++◌, length, get_or, slice_index, Option, Some, Ok, Bor, sym, ap, ◌∙◌, arith, append_assoc}
use Rattle.std.specs.Prelude.{decimal, MatchOption}
use Rattle.std.proofs.lemmas.Fmt.{decimal_is_IsNumeral}
use Rattle.std.proofs.lemmas.Str.Parse.{digit_at}
use Rattle.std.proofs.lemmas.Str.Pattern.{IsSplitOnceResult, split_after}
use Rattle.hex.specs.Hex.{IsBytes, decode_sized, encode_lower, encode_with, hex_digit_value, lower_digits}
use Rattle.hex.proofs.HexLemmas.{IsDigits-lower_digits, decode_pairs-encode_with, length-encode_with}
use Rattle.ix_manifest.specs.ManifestText.{fields_text}

-- the digits of a number are what is before the mark
pub number_before_mark : (mark number : ℕ) (text rest : List ℕ) (found : Option (Bor (List ℕ) × Bor (List ℕ))) → IsSplitOnceResult mark text found → mark < 48 → number < 2 ^ 64
    → text ≡ decimal number ++ mark ∷ rest → MatchOption found ⊥ (λ x. (x.0.now ≡ decimal number) × (x.1.now ≡ rest))
number_before_mark mark number text rest found split low fits is =
    split_after mark text (decimal number) rest found split (omega arith) is
    (λ i within same. let digit = digit_at (decimal number) i (decimal_is_IsNumeral number fits).0.1 within in omega (arith, digit))

-- ---- digests

not_feed : (d : ℕ) → d < 16 → slice_index lower_digits d ≢ 10
not_feed d low is =
    let none : hex_digit_value 10 ≡ Some d = ap hex_digit_value (sym is) ∙ IsDigits-lower_digits d low in
    cc

no_feed_in_digits : (bytes : List ℕ) → IsBytes bytes → (i : ℕ) → i < length (encode_lower bytes) → get_or (encode_lower bytes) i 0 ≢ 10
unfolding encode_with
no_feed_in_digits [] octets i within = absurd (omega arith)
no_feed_in_digits (byte ∷ bytes) octets zero within = let low : byte < 256 = octets 0 in not_feed (byte / 16) (omega arith)
no_feed_in_digits (byte ∷ bytes) octets (suc zero) within = not_feed (byte % 16) (omega arith)
no_feed_in_digits (byte ∷ bytes) octets (suc (suc i)) within = no_feed_in_digits bytes (λ k. octets (suc k)) i (omega arith)

-- the digits of a digest are what is before the LF
pub digest_before_feed : (digest text rest : List ℕ) (found : Option (Bor (List ℕ) × Bor (List ℕ))) → IsSplitOnceResult 10 text found → IsBytes digest
    → text ≡ encode_lower digest ++ 10 ∷ rest → MatchOption found ⊥ (λ x. (x.0.now ≡ encode_lower digest) × (x.1.now ≡ rest))
digest_before_feed digest text rest found split octets is =
    split_after 10 text (encode_lower digest) rest found split (omega arith) is (no_feed_in_digits digest octets)

pub digest_of_digits : (digest : List ℕ) → length digest ≡ 32 → IsBytes digest → decode_sized (encode_lower digest) 32 ≡ Ok digest
digest_of_digits digest size octets =
    let long : length (encode_lower digest) ≡ 64 = omega (arith, length-encode_with lower_digits digest) in
    rw long (decode_pairs-encode_with lower_digits IsDigits-lower_digits 0 digest octets)

-- ---- the fields of a line

-- the fields, each with its mark
pub fields_before : (file count bytes : ℕ) (digest rest : List ℕ)
    → fields_text file count bytes digest ++ rest ≡ decimal file ++ 32 ∷ (decimal count ++ 32 ∷ (decimal bytes ++ 32 ∷ (encode_lower digest ++ 10 ∷ rest)))
fields_before file count bytes digest rest = simp append_assoc
