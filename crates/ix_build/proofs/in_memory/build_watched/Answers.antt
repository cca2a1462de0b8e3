-- The runs of the blocks, one after another, are the collection.
use Rattle.std.proofs.Common.{◌≡◌, map, sym, subst}
use Rattle.std.proofs.lemmas.Result.{IfErr-at_err, IfOk-at_ok}
use Rattle.ix_text.specs.Collections.{collection_of}
use Rattle.ix_text.specs.Docs.{named_text}
use Rattle.ix_text.specs.Sizes.{AreSmall}
use Rattle.ix_merge.specs.Endings.{WritesIndexText}
use Rattle.ix_build.specs.Balanced.{balanced_cut}
use Rattle.ix_build.specs.Blocks.{AreBounds}
use Rattle.ix_build.specs.BlockRuns.{GivesRun, StaysMakerOf}
use Rattle.ix_build.specs.BuildErrors.{told_of_building}
use Rattle.ix_build.specs.Built.{FailsToBuild, IsBuilt}
use Rattle.ix_build.specs.OwnParts.{LeavesOwnPart}
use Rattle.ix_build.specs.declared.build_error.BuildError.{BuildError}
use Rattle.ix_build.specs.declared.build_error.BuildError.TheVariants.{Write}
use Rattle.ix_build.proofs.BlockMaking.{asked_of}
use Rattle.ix_build.proofs.WholeBuild.{all_unfinished, all_written, may_come_of_building, some_bound}
use Rattle.ix_build.proofs.WholeOver.{few_tokens}
use Rattle.ix_build.proofs.in_memory.build_watched.Goals as goal

pub block_count-requires : goal.block_count-requires
block_count-requires g c =
    let texts = map named_text c.docs-docs.result.now in
    let cut = balanced_cut c.args.plan.now.cut c.args.plan.now.workers texts in
    some_bound cut texts c.as_slice-bounds.result.now (subst (AreBounds cut texts) (sym c.as_slice-bounds.ensures.value) c.in-Ok.ensures.bounds)

pub returns-in-Ok-result-clause-written : goal.returns-in-Ok-result-clause-written
returns-in-Ok-result-clause-written g c =
    let texts = map named_text c.docs-docs.result.now in
    let cut = balanced_cut c.args.plan.now.cut c.args.plan.now.workers texts in
    let stop = c.args.stop.now in
    let bounds = c.as_slice-bounds.result.now in
    let are = subst (AreBounds cut texts) (sym c.as_slice-bounds.ensures.value) c.in-Ok.ensures.bounds in
    let count = c.block_count.result in
    let makers = c.in-Ok-makers_of.makers.items in
    let after = c.build_by-result.result.makers.items in
    let before = g.W.Write.contents c.args.out.now in
    let now = g.W.Write.contents c.build_by-result.new.out in
    let built = IfOk-at_ok (λ done. IsBuilt asked_of GivesRun StaysMakerOf makers count after before now) c.in-Ok-result.is c.build_by-result.ensures.written in
    subst (λ l. WritesIndexText before now (collection_of stop l)) c.docs-docs.ensures.documents
    (all_written cut texts bounds are stop makers after c.in-Ok-makers_of.ensures.each count c.block_count.ensures before now built)

pub of_building-requires : goal.of_building-requires
of_building-requires g c =
    let texts = map named_text c.docs-docs.result.now in
    let cut = balanced_cut c.args.plan.now.cut c.args.plan.now.workers texts in
    let stop = c.args.stop.now in
    let bounds = c.as_slice-bounds.result.now in
    let are = subst (AreBounds cut texts) (sym c.as_slice-bounds.ensures.value) c.in-Ok.ensures.bounds in
    let count = c.block_count.result in
    let makers = c.in-Ok-makers_of.makers.items in
    let after = c.build_by-result.result.makers.items in
    let before = g.W.Write.contents c.args.out.now in
    let now = g.W.Write.contents c.build_by-result.new.out in
    let fails = IfErr-at_err (FailsToBuild asked_of GivesRun StaysMakerOf makers count after before now) c.in-Err.is c.build_by-result.ensures.failed in
    may_come_of_building cut texts bounds are stop makers after c.in-Ok-makers_of.ensures.each count c.block_count.ensures before now
    (few_tokens stop texts (subst AreSmall (sym c.docs-docs.ensures.documents) c.docs-docs.ensures.small)) c.in-Err.error fails

pub returns-clause-unfinished : goal.returns-clause-unfinished
returns-clause-unfinished g c =
    let texts = map named_text c.docs-docs.result.now in
    let cut = balanced_cut c.args.plan.now.cut c.args.plan.now.workers texts in
    let stop = c.args.stop.now in
    let bounds = c.as_slice-bounds.result.now in
    let are = subst (AreBounds cut texts) (sym c.as_slice-bounds.ensures.value) c.in-Ok.ensures.bounds in
    let count = c.block_count.result in
    let makers = c.in-Ok-makers_of.makers.items in
    let after = c.build_by-result.result.makers.items in
    let before = g.W.Write.contents c.args.out.now in
    let now = g.W.Write.contents c.build_by-result.new.out in
    let fails = IfErr-at_err (FailsToBuild asked_of GivesRun StaysMakerOf makers count after before now) c.in-Err.is c.build_by-result.ensures.failed in
    subst (λ (error : BuildError). LeavesOwnPart (collection_of stop c.args.collection.now) before now (error ≡ Write)) (sym c.of_building.ensures)
    (subst (λ l. LeavesOwnPart (collection_of stop l) before now (told_of_building c.in-Err.error ≡ Write)) c.docs-docs.ensures.documents
    (all_unfinished cut texts bounds are stop makers after c.in-Ok-makers_of.ensures.each count c.block_count.ensures before now c.in-Err.error fails))
