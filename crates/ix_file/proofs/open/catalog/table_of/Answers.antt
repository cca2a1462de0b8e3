use Rattle.std.proofs.Common.{◌∙◌, ◌∷◌, [], ap, arith, get_or, map, take, refl, sym, subst}
use Rattle.std.proofs.lemmas.List.{map-append, take_all, take_more}
use Rattle.ix_text.proofs.PartsLawful.{sum_by-map}
use Rattle.ix_text.proofs.TokensBefore.{count_of}
use Rattle.ix_postings.proofs.TokenStarts.{room_for}
use Rattle.ix_postings.specs.TokenTables.{HasTokens}
use Rattle.ix_file.specs.OpenedRows.{row_in, rows_in}
use Rattle.ix_file.specs.declared.open.documents.Row.{Row}
use Rattle.ix_file.proofs.open.catalog.table_of.Goals as goal

pub loop-row-init : goal.loop-row-init
loop-row-init c section = c.in_ok-table.ensures

pub push-requires : goal.push-requires
push-requires c =
    let rows = c.args.rows.now in
    room_for (row_in []) c.loop-row.table rows c.loop-row.row-index _ (c.loop-row.invariant []) c.loop-row-test.true (omega (arith, c.requires, sum_by-map count_of (row_in []) rows))

pub loop-row-preserved : goal.loop-row-preserved
loop-row-preserved c section =
    let none : Row = record { start = 0; size = 0; tokens = 0 } in
    let rows = c.args.rows.now in
    let i = c.loop-row.row-index in
    let more = ap (map (row_in section)) (take_more rows i none c.loop-row-test.true) ∙ map-append (row_in section) (take i rows) (get_or rows i none ∷ []) in
    subst (HasTokens c.push.new.self) (sym more) (c.in_ok-push.ensures.ok (rows_in section (take i rows)) (row_in section (get_or rows i none)) (c.loop-row.invariant section) refl)

pub returns : goal.returns
returns c section =
    subst (λ rows. HasTokens c.loop-row.table (rows_in section rows)) (take_all c.loop-row.row-index c.args.rows.now c.loop-row-test.false) (c.loop-row.invariant section)
