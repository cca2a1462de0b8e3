-- A number that stands first in as many bytes as it may have is the one that is read.
use Rattle.std.proofs.Common.{arith, rules}
use Rattle.std.proofs.lemmas.Result.{err_from_is_err_and}
use Rattle.ix_run_text.specs.Inputs.{known_left}
use Rattle.ix_run_text.proofs.SpelledLemmas.{code_accepted, code_refused}
use Rattle.ix_run_text.proofs.term.read_positive.Goals as goal

pub returns-in_err-number-clause-accepted : goal.returns-in_err-number-clause-accepted
returns-in_err-number-clause-accepted g c number rest some fits short e =
    let p = err_from_is_err_and c.from_residual.result c.from_residual.ensures.1 in
    rw (p.1, p.2) (code_refused (known_left g.R.Read.remaining c.args.input.now) rest number c.args.limit c.in_err-number.field-0.0 fits short e c.in_err-number.ensures.fault)

pub returns-then-number-eq0-clause-accepted : goal.returns-then-number-eq0-clause-accepted
returns-then-number-eq0-clause-accepted g c number rest some fits short e =
    let known = code_accepted (known_left g.R.Read.remaining c.args.input.now) (known_left g.R.Read.remaining c.code.new.self) rest c.in_ok-number.number number c.in_ok-number.ensures.taken e in
    absurd (omega (arith, known.0, some, c.if-number-eq0.true))

pub returns-clause-accepted : goal.returns-clause-accepted
returns-clause-accepted g c number rest some fits short e =
    code_accepted (known_left g.R.Read.remaining c.args.input.now) (known_left g.R.Read.remaining c.code.new.self) rest c.in_ok-number.number number c.in_ok-number.ensures.taken e

-- The check finds it too; with an answer a wrong body that falls here is refused sooner.
pub returns-then-number-eq0-clause-some : goal.returns-then-number-eq0-clause-some
returns-then-number-eq0-clause-some g c = search rules
