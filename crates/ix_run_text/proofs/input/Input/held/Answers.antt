-- What stands in the buffer between two places.
use Rattle.ix_run_text.specs.Inputs.{bytes_held}
use Rattle.ix_run_text.proofs.InputLemmas.{held-slice}
use Rattle.ix_run_text.proofs.input.Input.held.Goals as goal

pub returns : goal.returns
unfolding bytes_held
returns g c =
    let input = c.args.self.now in
    rw c.deref.ensures.value (held-slice input.buffer.items input.start input.end input.ordered)
