-- Runs of parts of texts: what a merge of them writes, which errors come, and what they leave.
use Rattle.std.proofs.Common.{◌≡◌, ℕ, ◌≤◌, ◌^◌, List, Option, refl, ap}
use Rattle.ix_text.specs.Collections.{NamedText, collection_of, token_total}
use Rattle.ix_merge.specs.Endings.{WritesIndexText}
use Rattle.ix_run.specs.Runs.{RunValue}
use Rattle.ix_merge.specs.Refusals.{IsRefusal}
use Rattle.ix_merge.specs.declared.merge_error.MergeError.{MergeError}
use Rattle.ix_merge.specs.declared.merge_error.MergeError.TheVariants as merge
use Rattle.ix_build.specs.Blocks.{bounds_from}
use Rattle.ix_build.specs.BuildErrors.{MayComeOfMerge, told_of_merge}
use Rattle.ix_build.specs.Built.{headings_of}
use Rattle.ix_build.specs.OwnParts.{LeavesOwnPart}
use Rattle.ix_build.specs.RunPieces.{AreRunsOfTexts, LeavesRunsPart, WritesRuns}
use Rattle.ix_build.specs.declared.build_error.BuildError.TheVariants as build
use Rattle.ix_build.proofs.BuiltBlocks.{blocks_refused, blocks_unfinished, blocks_written}

module _ (stop : List (List ℕ)) (texts : List NamedText) (runs : List RunValue) (before now : Option (List ℕ)) (are : AreRunsOfTexts stop texts runs) where
  pub parts_written : WritesRuns runs before now → WritesIndexText before now (collection_of stop texts)
  parts_written = blocks_written texts stop (bounds_from 0 are.parts) are.parts are.whole refl are.some runs before now are.of_parts

  pub parts_unfinished : {E : Type 0} (error : MergeError E) → LeavesRunsPart runs before now (error ≡ merge.Write) → LeavesOwnPart (collection_of stop texts) before now (told_of_merge error ≡ build.Write)
  parts_unfinished error =
      blocks_unfinished texts stop (bounds_from 0 are.parts) are.parts are.whole refl are.some runs before now are.of_parts (error ≡ merge.Write) (told_of_merge error ≡ build.Write)
      (λ is. ap told_of_merge is)

  pub parts_refused : {E : Type 0} → token_total (collection_of stop texts) ≤ 2 ^ 28 → (error : MergeError E) → IsRefusal (headings_of runs) error → MayComeOfMerge error
  parts_refused = blocks_refused texts stop (bounds_from 0 are.parts) are.parts are.whole refl are.some runs before now are.of_parts
