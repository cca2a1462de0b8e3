-- What a table of documents says of their tokens.
use Rattle.std.specs.Prelude.{◌≡◌, ℕ, ◌+◌, ◌^◌, ◌≤◌, List, length, sum_by, slice_get, slice_index_or, Some}
use Rattle.ix_text.specs.Parts.{DocumentRow}
use Rattle.ix_text.specs.TokenNumbers.{tokens_before}
use Rattle.ix_postings.specs.declared.token_table.TokenTable.{TokenTable}

-- the tokens before each document, and last those of all
pub record AreStarts (starts : List ℕ) (rows : List DocumentRow) : Type 0 where
  pub counted : length starts ≡ length rows + 1
  pub each : (document none : ℕ) → document ≤ length rows → slice_index_or starts document none ≡ tokens_before rows document

-- the table has exactly these documents
unfoldable pub HasTokens : TokenTable → List DocumentRow → Type 0
HasTokens table rows = AreStarts table.starts.items rows

-- a document with as many tokens may come: with it the table's documents have at most 2^28
pub record HasRoomFor (table : TokenTable) (tokens : ℕ) : Type 0 where
  pub rows : List DocumentRow
  pub has : HasTokens table rows
  pub few : sum_by (λ row. row.tokens) rows + tokens ≤ 2 ^ 28

-- the number of the document's first token, and how many tokens it has
pub record IsSpan (rows : List DocumentRow) (document : ℕ) (span : ℕ × ℕ) : Type 0 where
  pub row : DocumentRow
  pub numbered : slice_get rows document ≡ Some row
  pub first : span.0 ≡ tokens_before rows document
  pub count : span.1 ≡ row.tokens
