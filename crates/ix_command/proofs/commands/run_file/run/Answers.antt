-- What was read of the collection file makes the run of the whole file.
use Rattle.std.proofs.Common.{inl, inr}
use Rattle.std.proofs.lemmas.Result.{on_err_weaker, on_ok_weaker}
use Rattle.ix_run.specs.Runs.{run_bytes}
use Rattle.ix_command.specs.Refusals.{IsUnsaved}
use Rattle.ix_command.specs.WrittenRuns.{no_file, no_output, no_run, no_stop_list, unsaved}
use Rattle.ix_command.proofs.FileLemmas.{err_weaker, handed_up}
use Rattle.ix_command.proofs.RunLemmas.{refuses_run_whole, run_of_files}
use Rattle.ix_command.proofs.commands.run_file.run.Goals as goal

pub returns-in_err-stop_list-clause-refused : goal.returns-in_err-stop_list-clause-refused
returns-in_err-stop_list-clause-refused g c = handed_up _ c.from_residual.result c.in_err-stop_list.field-0.0 c.from_residual.ensures.1 (no_stop_list c.in_err-stop_list.ensures.refused)

pub returns-in_err-text-clause-refused : goal.returns-in_err-text-clause-refused
returns-in_err-text-clause-refused g c = handed_up _ c.from_residual-in_err-text.result c.in_err-text.field-0.0 c.from_residual-in_err-text.ensures.1 (no_file c.in_err-text.ensures.refused)

pub returns-in_err-run-clause-refused : goal.returns-in_err-run-clause-refused
returns-in_err-run-clause-refused g c =
    let front = c.in_ok-text.ensures.front in
    let refused = rw c.deref.ensures.value at c.in_err-run.ensures.refused in
    handed_up _ c.from_residual-in_err-run.result c.in_err-run.field-0.0 c.from_residual-in_err-run.ensures.1
    (no_run front.whole c.in_ok-stop_list.stop_list front.held c.in_ok-stop_list.ensures.held (refuses_run_whole _ front.whole _ _ _ front.cut refused))

pub returns-clause-saved : goal.returns-clause-saved
returns-clause-saved g c =
    let front = c.in_ok-text.ensures.front in
    let has = rw c.deref.ensures.value at c.in_ok-run.ensures.run in
    on_ok_weaker c.save.result (λ saved. record {
      run = run_bytes c.in_ok-run.run';
      of_files = run_of_files _ _ _ _ _ _ _ front c.in_ok-stop_list.ensures.held has;
      saved = saved;
    }) c.save.ensures.saved

pub returns-clause-refused : goal.returns-clause-refused
returns-clause-refused g c =
    let front = c.in_ok-text.ensures.front in
    let has = rw c.deref.ensures.value at c.in_ok-run.ensures.run in
    err_weaker c.save.result (IsUnsaved c.args.output.now) _
    (λ told is. unsaved (run_bytes c.in_ok-run.run') (run_of_files _ _ _ _ _ _ _ front c.in_ok-stop_list.ensures.held has) is) c.save.ensures.refused

pub returns-clause-undone : goal.returns-clause-undone
returns-clause-undone g c =
    let front = c.in_ok-text.ensures.front in
    let has = rw c.deref.ensures.value at c.in_ok-run.ensures.run in
    on_err_weaker c.save.result (λ undone honest. elim (undone honest) [
      | inl same ↦ inl same
      | inr saved ↦ inr (record {
        run = run_bytes c.in_ok-run.run';
        of_files = run_of_files _ _ _ _ _ _ _ front c.in_ok-stop_list.ensures.held has;
        saved = saved;
      })
    ]) c.save.ensures.undone

pub returns-in_err-keep_apart-clause-refused : goal.returns-in_err-keep_apart-clause-refused
returns-in_err-keep_apart-clause-refused g c = handed_up _ c.from_residual-in_err-keep_apart.result c.in_err-keep_apart.field-0.0 c.from_residual-in_err-keep_apart.ensures.1 (no_output c.in_err-keep_apart.ensures.refused)

pub returns-in_err-keep_apart-2-clause-refused : goal.returns-in_err-keep_apart-2-clause-refused
returns-in_err-keep_apart-2-clause-refused g c = handed_up _ c.from_residual-in_err-keep_apart-2.result c.in_err-keep_apart-2.field-0.0 c.from_residual-in_err-keep_apart-2.ensures.1 (no_output c.in_err-keep_apart-2.ensures.refused)
