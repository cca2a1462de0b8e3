-- The terms so far were read.
use Rattle.std.proofs.Common.{◌≡◌, length, map, string_bytes}
use Rattle.ix_vbyte.specs.Texts.{counted}
use Rattle.ix_run_text.specs.Inputs.{known_left}
use Rattle.ix_run_text.specs.Pieces.{ArePiecesRead, StopTermFits}
use Rattle.ix_run_text.proofs.stop_terms.read_stop_terms.Given as goal

abbrev pub invariant-loop : goal.invariant-loop
invariant-loop g l = record {
  read : ArePiecesRead counted StopTermFits (known_left g.R.Read.remaining l.initial.input) (known_left g.R.Read.remaining l.input) (map string_bytes l.terms.items) l.count;
  size : length l.terms.items ≡ l.counter;
}
