use Rattle.std.proofs.Common.{◌≡◌, take}
use Rattle.ix_file.specs.Opened.{names_of}
use Rattle.ix_ask.specs.NameLines.{name_lines}
use Rattle.ix_archive.proofs.finding.name_lines_of.Given as goal

abbrev pub invariant-loop-number : goal.invariant-loop-number
invariant-loop-number l = l.lines.items ≡ name_lines (names_of l.index.parts.rows) (take l.number-index l.numbers)
