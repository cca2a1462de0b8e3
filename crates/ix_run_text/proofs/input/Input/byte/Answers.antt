-- The byte at the front of what is held.
use Rattle.std.proofs.Common.{arith}
use Rattle.ix_run_text.specs.Inputs.{known_left}
use Rattle.ix_run_text.proofs.InputLemmas.{byte_taken}
use Rattle.ix_run_text.proofs.input.Input.byte.Goals as goal

pub returns-clause-taken : goal.returns-clause-taken
unfolding known_left
returns-clause-taken g c =
    let input = c.has_byte.new.self in
    byte_taken (g.R.Read.remaining input.reader) input.buffer.items input.start _ input.end c.index-byte.result.now (known_left g.R.Read.remaining c.args.self.now)
    c.in_ok-has_byte.ensures.kept (rw c.if-not-branch.false at c.in_ok-has_byte.ensures.has) (omega (arith, input.buffer.ok.0, input.within)) c.index-byte.ensures (omega arith)
