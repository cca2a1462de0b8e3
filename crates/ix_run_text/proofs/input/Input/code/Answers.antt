-- A code that is whole in the buffer.
use Rattle.std.proofs.Common.{arith}
use Rattle.ix_vbyte.specs.Code.{code_of}
use Rattle.ix_run_text.specs.Inputs.{known_left}
use Rattle.ix_run_text.proofs.InputLemmas.{code_taken}
use Rattle.ix_run_text.proofs.input.Input.code.Goals as goal

pub returns-in-Ok-clause-taken : goal.returns-in-Ok-clause-taken
unfolding known_left
returns-in-Ok-clause-taken g c =
    let input = c.args.self.now in
    code_taken (g.R.Read.remaining input.reader) input.buffer.items (code_of c.in-Ok.number) input.start input.end c.in-Ok.count input.ordered (omega (arith, input.buffer.ok.0, input.within)) c.in-Ok.ensures.count (rw c.deref.ensures.value at c.in-Ok.ensures.front)
