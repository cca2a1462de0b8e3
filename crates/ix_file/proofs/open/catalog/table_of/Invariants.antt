use Rattle.std.proofs.Common.{ℕ, List, take}
use Rattle.ix_postings.specs.TokenTables.{HasTokens}
use Rattle.ix_file.specs.OpenedRows.{rows_in}
use Rattle.ix_file.proofs.open.catalog.table_of.Given as goal

abbrev pub invariant-loop-row : goal.invariant-loop-row
invariant-loop-row l = (section : List ℕ) → HasTokens l.table (rows_in section (take l.row-index l.rows))
