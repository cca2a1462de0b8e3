-- What came is buffered, and what did not is too little.
use Rattle.std.proofs.Common.{◌+◌, length, ap, arith}
use Rattle.std.proofs.KnownBytes.{Keeps-refl, Keeps-trans}
use Rattle.std.proofs.lemmas.Result.{err_from_is_err_and}
use Rattle.ix_run_text.specs.Inputs.{BeginsWith, bytes_held, known_left}
use Rattle.ix_run_text.specs.CodeFaults.{IsTextFault}
use Rattle.ix_run_text.proofs.FillLemmas.{input_begins, known_before, text_fault_more}
use Rattle.ix_run_text.proofs.input.Input.fill.Goals as goal

pub loop-self-init : goal.loop-self-init
loop-self-init g c = Keeps-refl (known_left g.R.Read.remaining c.args.self.now)

pub loop-self-preserved : goal.loop-self-preserved
loop-self-preserved g c =
    Keeps-trans (known_left g.R.Read.remaining c.args.self.now) (known_left g.R.Read.remaining c.loop-self.self) (known_left g.R.Read.remaining c.read_on.new.self) c.loop-self.invariant c.in_ok-read_on.ensures.kept

pub loop-self-smaller : goal.loop-self-smaller
loop-self-smaller g c = (let more = c.in_ok-read_on.ensures.more in omega (arith, more, ap length c.held.ensures, c.loop-self-test.true))

pub returns-in_err-read_on-clause-came : goal.returns-in_err-read_on-clause-came
returns-in_err-read_on-clause-came g c =
    known_before (known_left g.R.Read.remaining c.args.self.now) (known_left g.R.Read.remaining c.loop-self.self) (λ bytes. BeginsWith (bytes_held c.read_on.new.self) bytes) c.loop-self.invariant c.in_err-read_on.ensures.came

pub returns-in_err-read_on-clause-short : goal.returns-in_err-read_on-clause-short
returns-in_err-read_on-clause-short g c =
    let p = err_from_is_err_and c.from_residual.result c.from_residual.ensures.1 in
    rw p.1 (omega (arith, ap length c.in_err-read_on.ensures.same, ap length c.held.ensures, c.loop-self-test.true))

pub returns-in_err-read_on-clause-fault : goal.returns-in_err-read_on-clause-fault
returns-in_err-read_on-clause-fault g c =
    let p = err_from_is_err_and c.from_residual.result c.from_residual.ensures.1 in
    let error = c.in_err-read_on.field-0.0 in
    rw (p.1, p.2)
    (known_before (known_left g.R.Read.remaining c.args.self.now) (known_left g.R.Read.remaining c.loop-self.self) (λ bytes. IsTextFault c.args.count bytes error) c.loop-self.invariant
    (text_fault_more (length (bytes_held c.loop-self.self) + 1) c.args.count (known_left g.R.Read.remaining c.loop-self.self) error (omega (arith, ap length c.held.ensures, c.loop-self-test.true)) c.in_err-read_on.ensures.fault))

pub returns-clause-came : goal.returns-clause-came
returns-clause-came g c =
    known_before (known_left g.R.Read.remaining c.args.self.now) (known_left g.R.Read.remaining c.loop-self.self) (λ bytes. BeginsWith (bytes_held c.loop-self.self) bytes) c.loop-self.invariant
    (input_begins g.R.Read.remaining c.loop-self.self)

pub returns-clause-held : goal.returns-clause-held
returns-clause-held g c = omega (arith, ap length c.held.ensures, c.loop-self-test.false)
