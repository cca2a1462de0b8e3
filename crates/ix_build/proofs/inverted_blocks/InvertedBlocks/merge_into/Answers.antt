-- What is said of the merged runs is said of the texts of which they are.
use Rattle.std.proofs.Common.{◌≡◌, sym, subst, ◌∙◌}
use Rattle.ix_text.specs.Collections.{collection_of}
use Rattle.ix_build.specs.OwnParts.{LeavesOwnPart}
use Rattle.ix_build.specs.RunPieces.{AreInverted, AreRunsOfTexts}
use Rattle.ix_build.specs.declared.build_error.BuildError.{BuildError}
use Rattle.ix_build.specs.declared.build_error.BuildError.TheVariants.{Write}
use Rattle.ix_build.proofs.MergedParts.{parts_refused, parts_unfinished, parts_written}
use Rattle.ix_build.proofs.inverted_blocks.InvertedBlocks.merge_into.Goals as goal

pub returns-in-Ok-clause-written : goal.returns-in-Ok-clause-written
returns-in-Ok-clause-written g c = λ stop texts are.
    let same = c.as_slice.ensures.value ∙ c.self.view_is in
    parts_written stop texts c.as_slice.result.now (g.W.Write.contents c.args.out.now) (g.W.Write.contents c.merge_runs.new.out)
    (subst (AreRunsOfTexts stop texts) (sym same) are) c.in-Ok.ensures.written

pub of_merge-requires : goal.of_merge-requires
of_merge-requires g c =
    let all = subst AreInverted (sym c.as_slice.ensures.value) c.self.invariant in
    parts_refused all.stop all.texts c.as_slice.result.now (g.W.Write.contents c.args.out.now) (g.W.Write.contents c.merge_runs.new.out) all.of_texts all.few
    c.in-Err.error c.in-Err.ensures.refused

pub returns-clause-unfinished : goal.returns-clause-unfinished
returns-clause-unfinished g c = λ stop texts are.
    let same = c.as_slice.ensures.value ∙ c.self.view_is in
    let before = g.W.Write.contents c.args.out.now in
    let now = g.W.Write.contents c.merge_runs.new.out in
    subst (λ (error : BuildError). LeavesOwnPart (collection_of stop texts) before now (error ≡ Write)) (sym c.of_merge.ensures)
    (parts_unfinished stop texts c.as_slice.result.now before now (subst (AreRunsOfTexts stop texts) (sym same) are) c.in-Err.error c.in-Err.ensures.unfinished)
