use Rattle.std.proofs.Common.{◌≡◌, ◌++◌, map, length, string_bytes}
use Rattle.ix_text.specs.StopSets.{IsStopSet}
use Rattle.ix_index_text.specs.Sections.{stop_section}
use Rattle.ix_file.proofs.open.stop.read_stop.Given as goal

abbrev pub invariant-loop-left : goal.invariant-loop-left
invariant-loop-left l = record {
  lawful : IsStopSet (map string_bytes l.terms.items);
  read : l.section ≡ stop_section (map string_bytes l.terms.items) ++ l.left;
}

abbrev pub decreases-loop-left : goal.decreases-loop-left
decreases-loop-left l = length l.left
