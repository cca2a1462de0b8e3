-- The tokens before each document in a table: one more document, and where a document's tokens are.
use Rattle.std.proofs.Common.{◌≡◌, ℕ, ◌+◌, ◌-◌, ◌^◌, ◌<◌, ◌≤◌, List, [], ◌∷◌, ◌++◌, length, get_or, map, take, Some, slice_get, sum_by, refl, sym, ap, ◌∙◌, inl, inr, arith}
use Rattle.std.proofs.lemmas.Bool.{cases_lt}
use Rattle.std.proofs.lemmas.List.{length-append, get_or_append_left, get_or_push}
use Rattle.std.proofs.lemmas.List.Sums.{sum_by_more_le, sum_by_push}
use Rattle.std.proofs.lemmas.Option.{slice_get_cases}
use Rattle.ix_text.specs.Parts.{DocumentRow}
use Rattle.ix_text.specs.PartsLaws.{IsInRange}
use Rattle.ix_text.specs.TokenNumbers.{tokens_before}
use Rattle.ix_text.proofs.PartsLawful.{sum_by-map}
use Rattle.ix_text.proofs.TokensBefore.{count_of, tokens_before_end, tokens_before_front, tokens_before_next}
use Rattle.ix_postings.specs.TokenTables.{AreStarts, HasRoomFor, HasTokens, IsSpan}
use Rattle.ix_postings.specs.declared.token_table.TokenTable.{TokenTable}

pub starts_none : AreStarts (0 ∷ []) []
starts_none = record {
  counted = refl;
  each = λ document none h. let first : document ≡ 0 = omega (arith, h) in ap (λ n. get_or (0 ∷ []) n none) first ∙ sym (tokens_before_end [] document (omega arith));
}

-- the last start counts all tokens
pub last_start : (starts : List ℕ) (rows : List DocumentRow) (none : ℕ) → AreStarts starts rows → get_or starts (length starts - 1) none ≡ sum_by count_of rows
last_start starts rows none are =
    let e : length starts - 1 ≡ length rows = omega (arith, are.counted) in
    ap (λ n. get_or starts n none) e ∙ are.each (length rows) none (omega arith) ∙ tokens_before_end rows (length rows) (omega arith)

pub starts_more : (starts : List ℕ) (rows : List DocumentRow) (row : DocumentRow) (all : ℕ) → AreStarts starts rows → all ≡ sum_by count_of rows + row.tokens → AreStarts (starts ++ all ∷ []) (rows ++ row ∷ [])
starts_more starts rows row all are is = record {
  counted = omega (arith, are.counted, length-append starts (all ∷ []), length-append rows (row ∷ []));
  each = each;
}
  where
    each : (document none : ℕ) → document ≤ length (rows ++ row ∷ []) → get_or (starts ++ all ∷ []) document none ≡ tokens_before (rows ++ row ∷ []) document
    each document none h = elim (cases_lt document (length starts)) [
      | inl before ↦
          let within : document ≤ length rows = omega (arith, are.counted, before) in
          get_or_append_left starts (all ∷ []) none document before ∙ are.each document none within ∙ sym (tokens_before_front rows (row ∷ []) document within)
      | inr after ↦
          let long = length-append rows (row ∷ []) in
          let end : length starts ≡ document = omega (arith, are.counted, long, h) in
          get_or_push starts all none document end ∙ is ∙ sym (sum_by_push count_of rows row) ∙ sym (tokens_before_end (rows ++ row ∷ []) document (omega (arith, are.counted, long, after)))
    ]

-- there is room for the next of documents that have at most 2^28 tokens
pub room_for : {X : Type 0} (row_of : X → DocumentRow) (table : TokenTable) (docs : List X) (i : ℕ) (d : X) → HasTokens table (map row_of (take i docs)) → i < length docs → sum_by count_of (map row_of docs) ≤ 2 ^ 28
    → HasRoomFor table (row_of (get_or docs i d)).tokens
room_for {X} row_of table docs i d has within few = record {
  rows = map row_of (take i docs);
  has = has;
  few = omega (arith, few, sum_by-map count_of row_of (take i docs), sum_by-map count_of row_of docs, sum_by_more_le (λ (x : X). count_of (row_of x)) docs i d within);
}

-- two starts in a row tell where a document's tokens lie
pub span_of_starts : (starts : List ℕ) (rows : List DocumentRow) (document first next : ℕ) → AreStarts starts rows → document + 1 < length starts → first ≡ get_or starts document first → next ≡ get_or starts (document + 1) next → IsSpan rows document (first, next - first)
span_of_starts starts rows document first next are within at_first at_next =
    elim (slice_get_cases rows document).1 [
      | inl (row, there, numbered, same) ↦
          let one : first ≡ tokens_before rows document = at_first ∙ are.each document first (omega arith) in
          let two : next ≡ tokens_before rows (document + 1) = at_next ∙ are.each (document + 1) next (omega arith) in
          record { row = row; numbered = numbered; first = one; count = omega (arith, one, two, tokens_before_next rows document row numbered) }
      | inr past ↦ absurd (omega (arith, past.0, are.counted, within))
    ]

-- where there are no two starts, there is no document
pub no_document : (starts : List ℕ) (rows : List DocumentRow) (document : ℕ) → AreStarts starts rows → length starts ≤ document + 1 → length rows ≤ document
no_document starts rows document are past = omega (arith, are.counted, past)

-- a position below the count of a span is in range
pub in_range_from_span : (rows : List DocumentRow) (document position : ℕ) (span : ℕ × ℕ) → IsSpan rows document span → position < span.1 → IsInRange rows document position
in_range_from_span rows document position span is below = record { row = is.row; numbered = is.numbered; below = omega (arith, is.count, below) }

-- and a position in range is below it
pub span_from_in_range : (rows : List DocumentRow) (document position : ℕ) (span : ℕ × ℕ) → IsSpan rows document span → IsInRange rows document position → position < span.1
span_from_in_range rows document position span is range =
    let same : is.row ≡ range.row = cc (is.numbered, range.numbered) in
    omega (arith, is.count, ap count_of same, range.below)
