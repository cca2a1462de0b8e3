-- What is refused of a group, or of its answers, stops it.
use Rattle.std.proofs.Common.{map}
use Rattle.std.proofs.lemmas.Result.{IfErr-weaker}
use Rattle.ix_files.specs.Reading.{held_in}
use Rattle.ix_script.specs.Answers.{names_in}
use Rattle.ix_script.specs.PrintedAnswers.{answered_with}
use Rattle.ix_script.specs.Steps.{step_of}
use Rattle.ix_script.specs.Stops.{progress_of}
use Rattle.ix_script.proofs.ScriptLemmas.{group_refused, group_unwritten, handed_on}
use Rattle.ix_script.proofs.run.answer_group.Goals as goal

pub returns-in_err-answers-clause-refused : goal.returns-in_err-answers-clause-refused
returns-in_err-answers-clause-refused g c =
    handed_on _ c.from_residual.result c.in_err-answers.field-0.0 c.from_residual.ensures.1
    (group_refused (held_in (g.F.Files.view c.args.files.now)) c.args.indexer.now.stop c.args.plan.now.workers (map step_of c.args.group.now) (progress_of c.args.indexer.now) _ _
    c.in_err-answers.ensures.refused)

pub returns-clause-refused : goal.returns-clause-refused
returns-clause-refused g c =
    IfErr-weaker c.write_answers.result _ _ (λ error unwritten.
    group_unwritten (held_in (g.F.Files.view c.args.files.now)) c.args.indexer.now.stop c.args.plan.now.workers (map step_of c.args.group.now) (progress_of c.args.indexer.now)
    (progress_of c.run_group.new.indexer) (answered_with (map step_of c.args.group.now) (map names_in c.in_ok-answers.answers.items)) _ _ error c.in_ok-answers.ensures.ran unwritten)
    (rw c.deref.ensures.value at c.write_answers.ensures.refused)
