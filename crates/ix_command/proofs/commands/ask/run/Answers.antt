-- What was read of the collection file answers for the whole file.
use Rattle.std.proofs.Common.{rules}
use Rattle.ix_command.specs.AskedFiles.{no_stop_list, no_file, no_answer}
use Rattle.ix_command.specs.Refusals.{Tells}
use Rattle.ix_command.proofs.FileLemmas.{answered_whole, handed_up, leaves_whole, told_up}
use Rattle.ix_command.proofs.commands.ask.run.Goals as goal

pub returns-in_err-stop-clause-refused : goal.returns-in_err-stop-clause-refused
returns-in_err-stop-clause-refused g c = handed_up _ c.from_residual.result c.in_err-stop.field-0.0 c.from_residual.ensures.1 (no_stop_list c.in_err-stop.ensures.refused (search rules))

pub returns-in_err-text-clause-refused : goal.returns-in_err-text-clause-refused
returns-in_err-text-clause-refused g c = handed_up _ c.from_residual-in_err-text.result c.in_err-text.field-0.0 c.from_residual-in_err-text.ensures.1 (no_file c.in_err-text.ensures.refused (search rules))

pub returns-in_err-ask-clause-refused : goal.returns-in_err-ask-clause-refused
returns-in_err-ask-clause-refused g c =
    let front = c.in_ok-text.ensures.front in
    let leaves = rw c.deref.ensures.value at c.in_err-ask.ensures.refused in
    told_up Tells _ c.from_residual-in_err-ask.result c.in_err-ask.field-0.0 c.from_residual-in_err-ask.ensures.1
    (λ told tells. no_answer front.whole c.in_ok-stop.stop front.held c.in_ok-stop.ensures.held (record {
      error = c.in_err-ask.field-0.0;
      tells = tells;
      leaves = leaves_whole _ _ front.whole _ _ _ _ c.in_err-ask.field-0.0 front.cut leaves;
    }))

pub returns-clause-answered : goal.returns-clause-answered
returns-clause-answered g c =
    let front = c.in_ok-text.ensures.front in
    let answered = rw c.deref.ensures.value at c.in_ok-ask.ensures.answered in
    record {
      collection = front.whole;
      stop = c.in_ok-stop.stop;
      held = front.held;
      stop_held = c.in_ok-stop.ensures.held;
      answered = answered_whole _ front.whole _ _ _ _ _ front.cut answered;
    }
