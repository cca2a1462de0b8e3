use Rattle.std.proofs.Common.{◌≡◌, ◌++◌, map, take}
use Rattle.ix_index_text.specs.Rows.{document_row}
use Rattle.ix_index_text.specs.Sections.{documents_section}
use Rattle.ix_index_text.proofs.sections.push_rows.Given as goal

abbrev pub invariant-loop-row : goal.invariant-loop-row
invariant-loop-row l = l.out.items ≡ l.initial.out.items ++ documents_section (map document_row (take l.row-index l.rows))
