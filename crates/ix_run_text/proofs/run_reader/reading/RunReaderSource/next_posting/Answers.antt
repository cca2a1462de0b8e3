use Rattle.ix_run_text.proofs.ReadSkips.{none_left}
use Rattle.ix_run_text.proofs.SureReaders.{is_sure}
use Rattle.ix_run_text.proofs.Faulting.{going_at_term, keeps_faults, may_fault}
use Rattle.ix_run_text.specs.declared.run_text_error.RunTextError.TheVariants.{Memory}
use Rattle.ix_run_text.proofs.run_reader.reading.RunReaderSource.next_posting.Goals as goal
use Rattle.ix_run_text.proofs.run_reader.reading.RunReaderSource.next_posting.Goals.{in-Failed, in_default}

pub returns-then-self-eq0-clause-accepted : goal.returns-then-self-eq0-clause-accepted
returns-then-self-eq0-clause-accepted g c postings entries faces = none_left g.R.Read.remaining c.args.self.now postings entries c.if-self-eq0.true faces

pub returns-in-Ok-clause-no_more_faults : goal.returns-in-Ok-clause-no_more_faults
returns-in-Ok-clause-no_more_faults g c =
    let self = c.args.self.now in
    keeps_faults g.R.Read.remaining self (going_at_term g.R.Read.remaining self c.requires) (λ failed. elim c.match-matches.branch [ in-Failed w ↦ (let yes = w.matches-is in cc) | in_default w ↦ w.in_default.not-Failed failed ]) c.posting.new.self
    (λ postings entries faces. let next = c.in-Ok.ensures.accepted postings entries faces in (next.rest, (entries, next.ahead)))

pub returns-in-Err-clause-fault : goal.returns-in-Err-clause-fault
returns-in-Err-clause-fault g c =
    let self = c.args.self.now in
    may_fault g.R.Read.remaining self (going_at_term g.R.Read.remaining self c.requires) (λ failed. elim c.match-matches.branch [ in-Failed w ↦ (let yes = w.matches-is in cc) | in_default w ↦ w.in_default.not-Failed failed ]) Memory (λ postings entries faces. tt)

pub returns-in-Ok-clause-sure : goal.returns-in-Ok-clause-sure
returns-in-Ok-clause-sure g c sure =
    let next = c.in-Ok.ensures.accepted sure.postings sure.entries sure.faces in
    is_sure g.R.Read.remaining _ next.rest sure.entries next.ahead
