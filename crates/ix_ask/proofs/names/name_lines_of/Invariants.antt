use Rattle.std.proofs.Common.{◌≡◌, map, take}
use Rattle.ix_text.specs.Docs.{named_text}
use Rattle.ix_ask.specs.NameLines.{name_lines, names_read}
use Rattle.ix_ask.proofs.names.name_lines_of.Given as goal

abbrev pub invariant-loop-number : goal.invariant-loop-number
invariant-loop-number l = l.lines.items ≡ name_lines (names_read (map named_text l.documents)) (take l.number-index l.numbers)
