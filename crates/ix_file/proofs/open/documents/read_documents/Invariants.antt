use Rattle.std.proofs.Common.{All, ◌≡◌, ◌≤◌, ◌^◌, ◌++◌, length}
use Rattle.ix_file.specs.OpenedRows.{AreRows, IsNameRow, rows_in}
use Rattle.ix_index_text.specs.Sections.{documents_section}
use Rattle.ix_file.proofs.RowReading.{tokens_of}
use Rattle.ix_file.proofs.open.documents.read_documents.Given as goal

abbrev pub invariant-loop-left : goal.invariant-loop-left
invariant-loop-left l = record {
  lawful : AreRows (rows_in l.section l.rows.items);
  sum : l.tokens ≡ tokens_of (rows_in l.section l.rows.items);
  placed : All (IsNameRow l.section) l.rows.items;
  small : l.tokens ≤ 2 ^ 28;
  read : l.section ≡ documents_section (rows_in l.section l.rows.items) ++ l.left;
}

abbrev pub decreases-loop-left : goal.decreases-loop-left
decreases-loop-left l = length l.left
