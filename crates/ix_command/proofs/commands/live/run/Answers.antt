-- The steps that were carried out are those of the whole script file.
use Rattle.std.proofs.Common.{map, rules}
use Rattle.ix_script.specs.Steps.{step_of}
use Rattle.ix_command.specs.LiveScripts.{IsStoppedTold, no_stop_list, no_file, no_script, stopped}
use Rattle.ix_command.proofs.FileLemmas.{err_weaker, handed_up}
use Rattle.ix_files.specs.Reading.{held_in}
use Rattle.ix_command.proofs.commands.live.run.Goals as goal

pub returns-in_err-stop-clause-refused : goal.returns-in_err-stop-clause-refused
returns-in_err-stop-clause-refused g c = handed_up _ c.from_residual.result c.in_err-stop.field-0.0 c.from_residual.ensures.1 (no_stop_list c.in_err-stop.ensures.refused (search rules))

pub returns-in_err-text-clause-refused : goal.returns-in_err-text-clause-refused
returns-in_err-text-clause-refused g c = handed_up _ c.from_residual-in_err-text.result c.in_err-text.field-0.0 c.from_residual-in_err-text.ensures.1 (no_file c.in_err-text.ensures.refused (search rules))

pub returns-in_err-steps-clause-refused : goal.returns-in_err-steps-clause-refused
returns-in_err-steps-clause-refused g c =
    let refused = rw c.deref.ensures.value at c.in_err-steps.ensures.refused in
    handed_up _ c.from_residual-in_err-steps.result c.in_err-steps.field-0.0 c.from_residual-in_err-steps.ensures.1
    (no_script c.in_ok-text.text.items c.in_ok-stop.stop c.in_ok-text.ensures.held c.in_ok-stop.ensures.held refused (search rules))

pub returns-clause-refused : goal.returns-clause-refused
returns-clause-refused g c =
    let script = rw c.deref.ensures.value at c.in_ok-steps.ensures.read in
    let why = rw c.deref-2.ensures.value at c.carry_out.ensures.refused in
    err_weaker c.carry_out.result
    (IsStoppedTold (held_in (g.F.Files.view c.args.files.now)) c.args.plan.now.workers c.in_ok-stop.stop (map step_of c.in_ok-steps.steps.items) (g.W.Write.contents c.args.out.now) (g.W.Write.contents c.carry_out.new.out))
    _
    (λ told is. stopped _ _ (record {
      text = c.in_ok-text.text.items;
      held = c.in_ok-text.ensures.held;
      stop_held = c.in_ok-stop.ensures.held;
      script = script;
    }) is) why
