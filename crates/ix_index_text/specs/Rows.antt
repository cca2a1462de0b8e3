-- What a row that a writer is told says of a document.
use Rattle.ix_text.specs.Parts.{DocumentRow}
use Rattle.ix_index_text.specs.declared.row.DocRow.{DocRow}

-- its name and its number of tokens
abbrev pub document_row : DocRow → DocumentRow
document_row row = record { name = row.name.now; tokens = row.tokens }
