use Rattle.std.proofs.Common.{map, length, string_bytes}
use denote.Shadow.{shadow}
use denote.Text.{Utf8}
use Rattle.ix_text.proofs.StopTextLemmas.{IsReadUpTo}
use Rattle.ix_text.proofs.stop.StopList.read.Given as goal

abbrev pub invariant-loop-line : goal.invariant-loop-line
invariant-loop-line l = record {
  lines : IsReadUpTo l.text l.number (map string_bytes l.terms.items) l.left;
  characters : shadow (Utf8 l.left);
}

abbrev pub decreases-loop-line : goal.decreases-loop-line
decreases-loop-line l = length l.left
