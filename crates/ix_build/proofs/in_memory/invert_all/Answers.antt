-- The blocks of the plan's cut, one after another, are the collection.
use Rattle.std.proofs.Common.{map, sym, subst}
use Rattle.std.proofs.lemmas.Result.{IfErr-at_err, IfOk-at_ok}
use Rattle.ix_text.specs.Docs.{named_text}
use Rattle.ix_text.specs.Sizes.{AreSmall}
use Rattle.ix_build.specs.Balanced.{balanced_cut}
use Rattle.ix_build.specs.Blocks.{AreBounds}
use Rattle.ix_build.specs.BlockRuns.{GivesRun, StaysMakerOf}
use Rattle.ix_pool.specs.Outcomes.{Fails, IsMade}
use Rattle.ix_build.specs.RunPieces.{AreRunsOfTexts}
use Rattle.ix_build.proofs.BlockMaking.{asked_of}
use Rattle.ix_build.proofs.WholeBuild.{all_inverted, may_come, some_bound}
use Rattle.ix_build.proofs.WholeOver.{few_tokens}
use Rattle.ix_build.proofs.in_memory.invert_all.Goals as goal

pub block_count-requires : goal.block_count-requires
block_count-requires g c =
    let texts = map named_text c.docs-docs.result.now in
    some_bound (balanced_cut c.args.plan.now.cut c.args.plan.now.workers texts) texts c.as_slice-bounds.result.now
    (subst (AreBounds (balanced_cut c.args.plan.now.cut c.args.plan.now.workers texts) texts) (sym c.as_slice-bounds.ensures.value) c.in-Ok.ensures.bounds)

pub new-requires : goal.new-requires
new-requires g c =
    let texts = map named_text c.docs-docs.result.now in
    let stop = c.args.stop.now in
    let bounds = c.as_slice-bounds.result.now in
    let are = subst (AreBounds (balanced_cut c.args.plan.now.cut c.args.plan.now.workers texts) texts) (sym c.as_slice-bounds.ensures.value) c.in-Ok.ensures.bounds in
    let count = c.block_count.result in
    let makers = c.in-Ok-makers_of.makers.items in
    let after = c.work_all-result.result.makers.items in
    let made = IfOk-at_ok (λ runs. IsMade asked_of GivesRun StaysMakerOf makers count after runs.items) c.in-Ok-result.is c.work_all-result.ensures.made in
    record {
      stop = stop;
      texts = texts;
      of_texts = all_inverted (balanced_cut c.args.plan.now.cut c.args.plan.now.workers texts) texts bounds are stop makers after c.in-Ok-makers_of.ensures.each count c.block_count.ensures c.in-Ok-result.runs.items made;
      few = few_tokens stop texts (subst AreSmall (sym c.docs-docs.ensures.documents) c.docs-docs.ensures.small);
    }

pub returns-in-Ok-result-clause-inverted : goal.returns-in-Ok-result-clause-inverted
returns-in-Ok-result-clause-inverted g c =
    let texts = map named_text c.docs-docs.result.now in
    let stop = c.args.stop.now in
    let bounds = c.as_slice-bounds.result.now in
    let are = subst (AreBounds (balanced_cut c.args.plan.now.cut c.args.plan.now.workers texts) texts) (sym c.as_slice-bounds.ensures.value) c.in-Ok.ensures.bounds in
    let count = c.block_count.result in
    let makers = c.in-Ok-makers_of.makers.items in
    let after = c.work_all-result.result.makers.items in
    let made = IfOk-at_ok (λ runs. IsMade asked_of GivesRun StaysMakerOf makers count after runs.items) c.in-Ok-result.is c.work_all-result.ensures.made in
    let runs = c.in-Ok-result.runs.items in
    let all = all_inverted (balanced_cut c.args.plan.now.cut c.args.plan.now.workers texts) texts bounds are stop makers after c.in-Ok-makers_of.ensures.each count c.block_count.ensures runs made in
    subst (AreRunsOfTexts stop c.args.collection.now) (sym c.new.ensures) (subst (λ l. AreRunsOfTexts stop l runs) c.docs-docs.ensures.documents all)

pub of_work-requires : goal.of_work-requires
of_work-requires g c =
    let texts = map named_text c.docs-docs.result.now in
    let stop = c.args.stop.now in
    let bounds = c.as_slice-bounds.result.now in
    let are = subst (AreBounds (balanced_cut c.args.plan.now.cut c.args.plan.now.workers texts) texts) (sym c.as_slice-bounds.ensures.value) c.in-Ok.ensures.bounds in
    let count = c.block_count.result in
    let makers = c.in-Ok-makers_of.makers.items in
    let after = c.work_all-result.result.makers.items in
    let fails = IfErr-at_err (Fails asked_of GivesRun StaysMakerOf makers count after) c.in-Err.is c.work_all-result.ensures.failed in
    may_come (balanced_cut c.args.plan.now.cut c.args.plan.now.workers texts) texts bounds are stop makers after c.in-Ok-makers_of.ensures.each count c.block_count.ensures c.in-Err.error fails
