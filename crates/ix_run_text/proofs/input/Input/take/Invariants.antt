-- What was taken so far stands in `out`.
use Rattle.std.proofs.Common.{◌-◌, ◌≤◌, length, vec_len}
use Rattle.std.specs.Io.KnownBytes.{Consumes}
use Rattle.ix_run_text.specs.Inputs.{known_left}
use Rattle.ix_run_text.proofs.input.Input.take.Given as goal

abbrev pub invariant-loop-self : goal.invariant-loop-self
invariant-loop-self g l = record {
  taken : Consumes (known_left g.R.Read.remaining l.initial.self) (known_left g.R.Read.remaining l.self) l.out.items;
  within : length l.out.items ≤ l.count;
}

abbrev pub decreases-loop-self : goal.decreases-loop-self
decreases-loop-self g l = l.count - vec_len l.out
