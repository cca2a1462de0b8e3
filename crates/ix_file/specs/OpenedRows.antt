-- The rows of the documents, as an opened index holds them: each name stands where it is, in DOCS.
use Rattle.std.specs.Prelude.{ℕ, ◌+◌, ◌^◌, ◌≤◌, List, map, length, sum_by, slice_range, All}
use Rattle.ix_text.specs.Collections.{IsName}
use Rattle.ix_text.specs.Parts.{DocumentRow}
use Rattle.ix_file.specs.declared.open.documents.Row.{Row}

-- the row that an entry of the table stands for, in this section
abbrev pub row_in : List ℕ → Row → DocumentRow
row_in section row = record { name = slice_range section row.start (row.start + row.size); tokens = row.tokens }

-- the rows of a table
abbrev pub rows_in : List ℕ → List Row → List DocumentRow
rows_in section rows = map (row_in section) rows

-- names, and no more tokens than a lawful collection has
pub record AreRows (rows : List DocumentRow) : Type 0 where
  pub names : All (λ row. IsName row.name) rows
  pub few_tokens : sum_by (λ row. row.tokens) rows ≤ 2 ^ 28

-- the name of the row lies in the section
abbrev pub IsNameRow : List ℕ → Row → Type 0
IsNameRow section row = row.start + row.size ≤ length section
