-- The additions and removals of a group, and its answers, are what its steps do.
use Rattle.std.proofs.Common.{map}
use Rattle.ix_files.specs.Reading.{held_in}
use Rattle.ix_script.specs.Answers.{names_in}
use Rattle.ix_script.specs.PrintedAnswers.{asked_in}
use Rattle.ix_script.specs.Steps.{step_of}
use Rattle.ix_script.specs.Stops.{progress_of}
use Rattle.ix_script.proofs.RunLemmas.{as_many_answers, group_runs, ok_of_both}
use Rattle.ix_script.proofs.run_group.run_group.Goals as goal

pub returns-clause-ran : goal.returns-clause-ran
returns-clause-ran g c =
    ok_of_both c.answer_and_change.result _ _ _
    (λ r changed are. group_runs (held_in (g.F.Files.view c.args.files.now)) c.args.indexer.now.stop (map step_of c.args.group.now) (map names_in r.items) _ _ changed are)
    c.answer_and_change.ensures.changed c.answer_and_change.ensures.answers

pub returns-clause-count : goal.returns-clause-count
returns-clause-count g c =
    ok_of_both c.answer_and_change.result _ _ _ (λ r are same. as_many_answers c.args.indexer.now.stop (progress_of c.args.indexer.now).published (asked_in (map step_of c.args.group.now)) (map names_in r.items) are)
    c.answer_and_change.ensures.answers c.answer_and_change.ensures.answers
