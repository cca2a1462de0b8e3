use Rattle.std.proofs.Common.{◌≡◌, string_bytes, take}
use Rattle.ix_ask.specs.Listing.{picked, row_lines, term_rows}
use Rattle.ix_ask.proofs.list_index.term_lines_in.Given as goal

abbrev pub invariant-loop-number : goal.invariant-loop-number
invariant-loop-number l = string_bytes l.lines ≡ row_lines (picked (term_rows l.index.parts.entries) (take l.number-index l.numbers))
