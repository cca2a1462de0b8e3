use Rattle.ix_ask.specs.Listing.{term_rows}
use Rattle.ix_ask.proofs.ListingLemmas.{row_at, row_lines_more}
use Rattle.ix_ask.proofs.list_index.term_lines_in.Goals as goal

pub loop-number-preserved : goal.loop-number-preserved
loop-number-preserved c =
    let entries = c.args.index.now.parts.entries in
    let found = row_at entries _ _ _ c.term.ensures c.documents_of.ensures in
    let more = row_lines_more (term_rows entries) c.args.numbers.now c.loop-number.number-index _ c.loop-number-test.true found in
    cc (more, c.in_ok-push_row_line.ensures)
