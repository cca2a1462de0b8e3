-- The rows of all documents, by number.
use Rattle.std.specs.Prelude.{◌≡◌, ℕ, ◌+◌, ◌<◌, List, length, slice_get, sum_by, All}
use Rattle.ix_text.specs.Parts.{DocumentRow}
use Rattle.ix_run.specs.Heads.{Heading}
use Rattle.ix_merge.specs.Covers.{Cover}

-- the number of tokens of documents
abbrev pub tokens_in : List DocumentRow → ℕ
tokens_in rows = sum_by (λ row. row.tokens) rows

-- the number of tokens of all sources
abbrev pub tokens_under : List Heading → ℕ
tokens_under headings = sum_by (λ heading. tokens_in heading.rows) headings

-- The rows are those of the headings, each under its number.
pub record AreRowsOf (headings : List Heading) (rows : List DocumentRow) : Type 0 where
  pub cover : Cover headings (length rows)
  pub placed : All (λ heading. (number : ℕ) → number < length heading.rows
      → slice_get rows (heading.first + number) ≡ slice_get heading.rows number) headings
  pub tokens : tokens_in rows ≡ tokens_under headings
