-- Texts have no more tokens than bytes, and those of a collection text are small.
use Rattle.std.proofs.Common.{◌≡◌, ℕ, suc, zero, ◌+◌, ◌*◌, ◌-◌, ◌^◌, ◌≤◌, Bool, true, false, cond, List, [], ◌∷◌, ◌++◌, map, length, take, drop, flat_map, encode_utf8_all, ap, ◌∙◌, arith, length-append}
use Rattle.std.proofs.lemmas.List.{length-map, length-take, length-drop}
use Rattle.std.proofs.lemmas.List.Sums.{sum_by-cons, sum_by-take-le, sum_by-take-drop}
use Rattle.std.specs.List.{sum_by}
use Rattle.std.specs.Str.{chars, chars_after, continuation_len, lead_bits}
use Rattle.unicode_segmentation.specs.Segments.{Rule, prepend, cut, segments, has_alphanumeric}
use Rattle.unicode_segmentation.specs.Word.{is_word_break, word_bounds, words}
use Rattle.unicode_segmentation.proofs.SegmentsLemmas.{length-filter-le}
use Rattle.ix_text.specs.Collections.{NamedText, Document, collection_of}
use Rattle.ix_text.specs.CollectionText.{line_of}
use Rattle.ix_text.specs.CollectionFaults.{IsReadUpTo}
use Rattle.ix_text.specs.Sizes.{AreSmall, SlicesAreSmall, TokensAreNoMoreThanBytes, text_bytes}
use Rattle.ix_text.specs.Terms.{term_of_word}
use Rattle.ix_text.specs.TokenLists.{entry_of_term, token_list}

-- ---- a text has no more characters than bytes, and no more words than characters

chars_after_few : (more bits : ℕ) (bytes : List ℕ) → length (chars_after more bits bytes) ≤ suc (length bytes)
chars_after_few zero bits [] = omega arith
chars_after_few zero bits (b ∷ bytes) = let rest = chars_after_few (continuation_len b) (lead_bits b) bytes in omega (arith, rest)
chars_after_few (suc more) bits [] = omega arith
chars_after_few (suc more) bits (b ∷ bytes) = let rest = chars_after_few more (bits * 64 + (b - 128)) bytes in omega (arith, rest)

chars_few : (text : List ℕ) → length (chars text) ≤ length text
unfolding chars
chars_few [] = omega arith
chars_few (b ∷ text) = chars_after_few (continuation_len b) (lead_bits b) text

prepend_few : (part : List ℕ) (pieces : List (List ℕ)) → length (prepend part pieces) ≤ suc (length pieces)
prepend_few part [] = omega arith
prepend_few part (piece ∷ pieces) = omega arith

cut_few : (rule : Rule) (before cs after : List ℕ) → length (cut rule before cs after) ≤ length cs
unfolding cut
cut_few rule before [] after = omega arith
cut_few rule before (c ∷ cs) after =
    attach (rule (c ∷ before) (cs ++ after)) (cut rule (c ∷ before) cs after) (cut_few rule (c ∷ before) cs after)
  where
    attach : (b : Bool) (pieces : List (List ℕ)) → length pieces ≤ length cs → length (cond b ((c ∷ []) ∷ pieces) (prepend (c ∷ []) pieces)) ≤ suc (length cs)
    attach true pieces few = omega (arith, few)
    attach false pieces few = omega (arith, few, prepend_few (c ∷ []) pieces)

segments_few : (rule : Rule) (text : List ℕ) → length (segments rule text) ≤ length text
unfolding segments
segments_few rule text = omega (arith, length-map (cut rule [] (chars text) []) encode_utf8_all, cut_few rule [] (chars text) [], chars_few text)

-- a token list has no more entries than its text has bytes
pub token_list_few : (stop : List (List ℕ)) (text : List ℕ) → length (token_list stop text) ≤ length text
unfolding token_list
token_list_few stop text =
    omega (arith, length-map (words text) (λ word. entry_of_term stop (term_of_word word)), length-filter-le has_alphanumeric (word_bounds text), segments_few is_word_break text)

-- ---- tokens and bytes of named texts

unfoldable pub document_of : List (List ℕ) → NamedText → Document
document_of stop d = record { name = d.name; tokens = token_list stop d.text }

pub tokens_few : (stop : List (List ℕ)) (texts : List NamedText) → sum_by (λ d. length d.tokens) (map (document_of stop) texts) ≤ text_bytes texts
unfolding document_of
tokens_few stop [] = omega arith
tokens_few stop (d ∷ ds) =
    omega (
      arith,
      sum_by-cons (λ (e : Document). length e.tokens) (document_of stop d) (map (document_of stop) ds),
      sum_by-cons (λ (e : NamedText). length e.text) d ds,
      token_list_few stop d.text,
      tokens_few stop ds,
    )

pub tokens_no_more_than_bytes : TokensAreNoMoreThanBytes
unfolding collection_of document_of
tokens_no_more_than_bytes stop texts = tokens_few stop texts

-- ---- small texts

text_bytes-take : (texts : List NamedText) (count : ℕ) → text_bytes (take count texts) ≤ text_bytes texts
text_bytes-take texts count = sum_by-take-le (λ (d : NamedText). length d.text) texts count

text_bytes-drop : (texts : List NamedText) (from : ℕ) → text_bytes (drop from texts) ≤ text_bytes texts
text_bytes-drop texts from = omega (arith, sum_by-take-drop (λ (d : NamedText). length d.text) texts from)

-- the first of small texts are small
pub AreSmall-take : (texts : List NamedText) (count : ℕ) → AreSmall texts → AreSmall (take count texts)
AreSmall-take texts count small = record {
  few = omega (arith, small.few, length-take count texts);
  short = omega (arith, small.short, text_bytes-take texts count);
}

-- and so are those behind the first
pub AreSmall-drop : (texts : List NamedText) (from : ℕ) → AreSmall texts → AreSmall (drop from texts)
AreSmall-drop texts from small = record {
  few = omega (arith, small.few, length-drop from texts);
  short = omega (arith, small.short, text_bytes-drop texts from);
}

pub slices_small : SlicesAreSmall
slices_small texts from count small = AreSmall-take (drop from texts) count (AreSmall-drop texts from small)

-- the lines of documents have room for their texts
pub lines_hold : (texts : List NamedText) → (length texts ≤ length (flat_map line_of texts)) × (text_bytes texts ≤ length (flat_map line_of texts))
lines_hold [] = (omega arith, omega arith)
lines_hold (d ∷ ds) =
    let rest = lines_hold ds in
    let line : length d.text + 2 + length (flat_map line_of ds) ≤ length (line_of d ++ flat_map line_of ds) = simp length-append (omega arith) in
    (omega (arith, rest.0, line), omega (arith, rest.1, line, sum_by-cons (λ (e : NamedText). length e.text) d ds))

-- what was read of a text of lawful size is small
pub AreSmall-from_lines : (text : List ℕ) (documents : List NamedText) (number : ℕ) (left : List ℕ) → length text ≤ 2 ^ 28 → IsReadUpTo text documents number left → AreSmall documents
AreSmall-from_lines text documents number left small read =
    let held = lines_hold documents in
    let whole : length text ≡ length (flat_map line_of documents) + length left = ap length read.lines ∙ length-append (flat_map line_of documents) left in
    record { few = omega (arith, held.0, whole, small); short = omega (arith, held.1, whole, small) }
