-- The bytes seen so far were taken, and are no code yet.
use Rattle.std.proofs.Common.{◌≡◌, ◌≤◌, length, take}
use Rattle.std.specs.Io.KnownBytes.{Consumes}
use Rattle.ix_vbyte.specs.Reading.{IsCut}
use Rattle.ix_run_text.specs.Inputs.{known_left}
use Rattle.ix_run_text.proofs.input.Input.code_by_bytes.Given as goal

abbrev pub invariant-loop-place : goal.invariant-loop-place
invariant-loop-place g l = record {
  taken : Consumes (known_left g.R.Read.remaining l.initial.self) (known_left g.R.Read.remaining l.self) (take l.place l.seen);
  cut : IsCut (take l.place l.seen);
  within : l.place ≤ l.limit;
  size : length l.seen ≡ 6;
}
