use Rattle.std.proofs.Common.{◌≡◌, ◌++◌, map, take, string_bytes}
use Rattle.ix_index_text.specs.Sections.{stop_section}
use Rattle.ix_index_text.proofs.sections.push_stop.Given as goal

abbrev pub invariant-loop-term : goal.invariant-loop-term
invariant-loop-term l = l.out.items ≡ l.initial.out.items ++ stop_section (map string_bytes (take l.term-index l.terms))
