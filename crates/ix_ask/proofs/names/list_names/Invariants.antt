use Rattle.std.proofs.Common.{◌≡◌, take}
use Rattle.ix_file.specs.Opened.{names_of}
use Rattle.ix_ask.specs.NameLines.{all_name_lines}
use Rattle.ix_ask.proofs.names.list_names.Given as goal

abbrev pub invariant-loop-number : goal.invariant-loop-number
invariant-loop-number l = l.bytes.items ≡ all_name_lines (take l.number (names_of l.index.parts.rows))
