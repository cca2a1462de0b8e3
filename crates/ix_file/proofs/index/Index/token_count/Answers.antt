use Rattle.std.proofs.Common.{◌<◌, length}
use Rattle.ix_text.specs.Parts.{DocumentRow}
use Rattle.ix_file.specs.OpenedRows.{row_in, rows_in}
use Rattle.ix_file.proofs.OpenedLemmas.{told_of}
use Rattle.ix_file.proofs.index.Index.token_count.Goals as goal

pub returns : goal.returns
returns c =
    let section = c.self.inside.sections.documents.now in
    let below : c.args.document < length (rows_in section c.tables.result.now.rows.items) = rw c.tables.ensures (rw (← c.self.view_is) at c.requires) in
    rw (← c.self.view_is, ← c.tables.ensures)
    (told_of (λ (row : DocumentRow). row.tokens) (row_in section) c.tables.result.now.rows.items c.args.document c.index.result.now below c.index.ensures)
