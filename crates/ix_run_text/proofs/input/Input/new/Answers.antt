-- Nothing is buffered yet.
use Rattle.ix_run_text.specs.Inputs.{known_left}
use Rattle.ix_run_text.proofs.InputLemmas.{held-zero}
use Rattle.ix_run_text.proofs.input.Input.new.Goals as goal

pub returns : goal.returns
unfolding known_left
returns g c = held-zero c.in_ok-vec.field-0.items (g.R.Read.remaining c.args.reader)
