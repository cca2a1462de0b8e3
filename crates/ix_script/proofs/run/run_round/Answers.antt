-- A group, and the publish behind it.
use Rattle.std.proofs.Common.{inl, map, subst, sym, List}
use Rattle.ix_files.specs.Reading.{held_in}
use Rattle.ix_script.specs.Steps.{Step, step_of}
use Rattle.ix_script.specs.Stops.{progress_of}
use Rattle.ix_script.specs.Stretches.{CarriesOut}
use Rattle.ix_script.proofs.ScriptLemmas.{carries_publish, group_stops, group_unpublished, handed_on, publish_cut, published_behind}
use Rattle.ix_script.proofs.run.run_round.Goals as goal

pub returns-in_err-found-clause-refused : goal.returns-in_err-found-clause-refused
returns-in_err-found-clause-refused g c =
    handed_on _ c.from_residual.result c.in_err-found.field-0.0 c.from_residual.ensures.1
    (group_stops (held_in (g.F.Files.view c.args.files.now)) c.args.indexer.now.stop c.args.plan.now.workers (map step_of c.args.steps.now) (map step_of c.first_group.result.0.now) _
    (progress_of c.args.indexer.now) _ _ _ c.first_group.ensures.cut c.in_err-found.ensures.refused)

pub returns-in_err-publish-clause-refused : goal.returns-in_err-publish-clause-refused
returns-in_err-publish-clause-refused g c =
    let cut = rw c.in-Some.is at c.first_group.ensures.cut in
    handed_on _ c.from_residual-in_err-publish.result c.in_err-publish.field-0.0 c.from_residual-in_err-publish.ensures.1
    (group_unpublished (held_in (g.F.Files.view c.args.files.now)) c.args.indexer.now.stop c.args.plan.now.workers (map step_of c.first_group.result.0.now) (map step_of c.in-Some.rest.now)
    (map step_of c.args.steps.now) (progress_of c.args.indexer.now) (progress_of c.answer_group.new.indexer) _ _ c.in_ok-found.found _ cut.0 c.in_err-publish.ensures.refused.0 c.in_ok-found.ensures.ran)

pub returns-clause-published : goal.returns-clause-published
returns-clause-published g c =
    let cut = rw c.in-Some.is at c.first_group.ensures.cut in
    let steps = publish_cut step_of c.args.steps.now c.in-Some.rest.now (map step_of c.first_group.result.0.now) cut.0 in
    inl (published_behind (map step_of c.first_group.result.0.now) _ steps)

pub returns-clause-ran : goal.returns-clause-ran
returns-clause-ran g c =
    let cut = rw c.in-Some.is at c.first_group.ensures.cut in
    let steps = publish_cut step_of c.args.steps.now c.in-Some.rest.now (map step_of c.first_group.result.0.now) cut.0 in
    let holds = held_in (g.F.Files.view c.args.files.now) in
    subst (λ (l : List Step). CarriesOut holds c.args.indexer.now.stop l (progress_of c.args.indexer.now) (progress_of c.publish.new.indexer) (g.W.Write.contents c.args.out.now)
    (g.W.Write.contents c.answer_group.new.out) c.in_ok-found.found) (sym steps)
    (carries_publish holds c.args.indexer.now.stop (map step_of c.first_group.result.0.now) (progress_of c.args.indexer.now) (progress_of c.answer_group.new.indexer) (progress_of c.publish.new.indexer)
    _ _ c.in_ok-found.found c.in_ok-found.ensures.ran c.in_ok-publish.ensures.published)
