-- The heading that is kept of a block's run.
use Rattle.std.specs.Prelude.{◌≡◌, ℕ, List}
use Rattle.ix_text.specs.Collections.{NamedText}
use Rattle.ix_run.specs.Heads.{Heading}
use Rattle.ix_run.specs.RunSources.{heading_shown}
use Rattle.ix_run.specs.Runs.{RunValue}
use Rattle.ix_build.specs.Blocks.{AreBounds}
use Rattle.ix_build.specs.BlockRuns.{IsRunOfBlock}
use Rattle.ix_build.specs.declared.plan.Cut.{Cut}

-- The heading is that of the run of the place's block, under the cut and the stop set.
pub record IsHeadingOfBlock (cut : Cut) (texts : List NamedText) (stop : List (List ℕ)) (place : ℕ) (heading : Heading) : Type 0 where
  pub bounds : List ℕ
  pub of_cut : AreBounds cut texts bounds
  pub run : RunValue
  pub of_block : IsRunOfBlock texts stop bounds place run
  pub of_run : heading ≡ heading_shown run
