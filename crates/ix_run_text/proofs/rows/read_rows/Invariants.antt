-- The documents so far were read, and their tokens counted.
use Rattle.std.proofs.Common.{◌≡◌, ◌≤◌, ◌^◌, length, map}
use Rattle.std.specs.List.{sum_by}
use Rattle.ix_text.specs.Parts.{row_bytes}
use Rattle.ix_vbyte.specs.Code.{code_of}
use Rattle.ix_run_text.specs.Heads.{row_of_doc}
use Rattle.ix_run_text.specs.Inputs.{known_left}
use Rattle.ix_run_text.specs.Pieces.{ArePiecesRead, RowFits}
use Rattle.ix_run_text.proofs.rows.read_rows.Given as goal

abbrev pub invariant-loop : goal.invariant-loop
invariant-loop g l = record {
  read : ArePiecesRead (row_bytes code_of) RowFits (known_left g.R.Read.remaining l.initial.input) (known_left g.R.Read.remaining l.input) (map row_of_doc l.docs.items) l.count;
  size : length l.docs.items ≡ l.counter;
  tokens : l.tokens ≡ sum_by (λ row. row.tokens) (map row_of_doc l.docs.items);
  few : l.tokens ≤ 2 ^ 28;
}
