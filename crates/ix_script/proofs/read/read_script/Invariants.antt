use Rattle.std.proofs.Common.{map, length}
use denote.Shadow.{shadow}
use denote.Text.{Utf8}
use Rattle.ix_script.specs.Steps.{step_of}
use Rattle.ix_script.proofs.Reading.{IsReadUpTo}
use Rattle.ix_script.proofs.read.read_script.Given as goal

abbrev pub invariant-loop-line : goal.invariant-loop-line
invariant-loop-line l = record {
  lines : IsReadUpTo l.stop l.text l.number (map step_of l.steps.items) l.left;
  characters : shadow (Utf8 l.left);
}

abbrev pub decreases-loop-line : goal.decreases-loop-line
decreases-loop-line l = length l.left
