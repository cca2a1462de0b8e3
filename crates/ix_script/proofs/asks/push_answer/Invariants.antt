use Rattle.std.proofs.Common.{◌≡◌, ◌++◌, map, take, flat_map}
use Rattle.std.specs.String.{string_bytes}
use Rattle.ix_script.specs.PrintedAnswers.{name_line}
use Rattle.ix_script.proofs.asks.push_answer.Given as goal

abbrev pub invariant-loop-name : goal.invariant-loop-name
invariant-loop-name l = string_bytes l.lines ≡ string_bytes l.initial.lines ++ flat_map name_line (map string_bytes (take l.name-index l.names))
