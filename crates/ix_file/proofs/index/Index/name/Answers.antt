use Rattle.std.proofs.Common.{◌<◌, All, length, Some, sym, ap, ◌∙◌}
use Rattle.std.proofs.lemmas.Result.{MatchResult-at_ok}
use Rattle.ix_text.specs.Collections.{IsName}
use Rattle.ix_text.specs.Parts.{DocumentRow}
use Rattle.ix_text.proofs.PartsLawful.{at_place}
use Rattle.ix_file.specs.OpenedRows.{row_in, rows_in}
use Rattle.ix_file.proofs.OpenedLemmas.{ok_where, told_at, told_of}
use Rattle.ix_file.proofs.index.Index.name.Goals as goal

pub unwrap-requires : goal.unwrap-requires
unwrap-requires c =
    let section = c.self.inside.sections.documents.now in
    let rows = c.tables.result.now.rows.items in
    let below : c.args.document < length (rows_in section rows) = rw c.tables.ensures (rw (← c.self.view_is) at c.requires) in
    let names : All (λ row. IsName row.name) (rows_in section rows) = rw c.tables.ensures c.self.invariant.lawful.names in
    let is = at_place (λ (row : DocumentRow). IsName row.name) (rows_in section rows) c.args.document (row_in section c.index-row.result.now) names (told_at (row_in section) rows c.args.document c.index-row.result.now below c.index-row.ensures) in
    ok_where c.from_utf8.result _ _ c.from_utf8.ensures.cases (λ e bad. bad.0 is.characters)

pub returns : goal.returns
returns c =
    let section = c.self.inside.sections.documents.now in
    let rows = c.tables.result.now.rows.items in
    let below : c.args.document < length (rows_in section rows) = rw c.tables.ensures (rw (← c.self.view_is) at c.requires) in
    let name = MatchResult-at_ok _ _ c.unwrap.result c.unwrap.ensures c.from_utf8.ensures.cases in
    rw (← c.self.view_is, ← c.tables.ensures)
    (told_of (λ (row : DocumentRow). row.name) (row_in section) rows c.args.document c.index-row.result.now below c.index-row.ensures ∙ ap Some (sym name.0))
