-- The bytes are those that were held.
use Rattle.std.proofs.Common.{arith}
use Rattle.ix_run_text.specs.Inputs.{bytes_held}
use Rattle.ix_run_text.proofs.FillLemmas.{held_moved_down}
use Rattle.ix_run_text.proofs.input.Input.move_down.Goals as goal

pub returns-clause-held : goal.returns-clause-held
unfolding bytes_held
returns-clause-held g c =
    let input = c.args.self.now in
    rw c.copy_within.ensures.items (held_moved_down input.buffer.items input.start input.end input.ordered (omega (arith, input.buffer.ok.0, input.within)))
