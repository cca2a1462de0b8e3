-- Each path that is a run makes the line an error.
use Rattle.ix_command.specs.BuiltIndexes.{no_input, no_output, no_stop_file, unbuilt}
use Rattle.std.proofs.Common.{⊎_elim}
use Rattle.ix_command.proofs.BuildLemmas.{of_runs_unbuilt, some_refused}
use Rattle.ix_command.proofs.FileLemmas.{err_weaker, handed_up}
use Rattle.ix_command.proofs.commands.build.keep_from_runs.Goals as goal

pub returns-in_err-keep_from-clause-refused : goal.returns-in_err-keep_from-clause-refused
returns-in_err-keep_from-clause-refused g c = λ terms of_files.
    handed_up _ c.from_residual.result c.in_err-keep_from.field-0.0 c.from_residual.ensures.1
    (⊎_elim (λ same. no_stop_file (some_refused _ _ _ c.in-Some.is same)) (unbuilt terms c.args.documents.now of_files)
    (of_runs_unbuilt _ _ _ _ c.args.output.now _ c.in_err-keep_from.ensures.refused))

pub returns-in_err-keep_from-2-clause-refused : goal.returns-in_err-keep_from-2-clause-refused
returns-in_err-keep_from-2-clause-refused g c = λ terms of_files.
    handed_up _ c.from_residual-in_err-keep_from-2.result c.in_err-keep_from-2.field-0.0 c.from_residual-in_err-keep_from-2.ensures.1
    (⊎_elim no_input (unbuilt terms c.args.documents.now of_files) (of_runs_unbuilt _ _ _ _ c.args.output.now _ c.in_err-keep_from-2.ensures.refused))

pub returns-clause-refused : goal.returns-clause-refused
returns-clause-refused g c = λ terms of_files.
    err_weaker c.keep_from-3.result _ _
    (λ told is. ⊎_elim no_output (unbuilt terms c.args.documents.now of_files) (of_runs_unbuilt _ _ _ _ c.args.output.now told is)) c.keep_from-3.ensures.refused
