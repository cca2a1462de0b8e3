-- When a store gives back nothing but the runs of the blocks.
use Rattle.std.specs.Prelude.{◌≡◌, ℕ, ◌+◌, ◌<◌, List, length, Some, slice_get, slice_range}
use Rattle.ix_text.specs.Collections.{NamedText, collection_of}
use Rattle.ix_run.specs.RunText.{IsRunText}
use Rattle.ix_build.specs.Blocks.{AreBounds}
use Rattle.ix_build.specs.declared.plan.Cut.{Cut}

-- The bytes are the run text of a block under the stop set: of the texts from the bound of that place up to the next one,
-- numbered from that bound.
pub record IsTextOfBlock (texts : List NamedText) (stop : List (List ℕ)) (bounds : List ℕ) (place : ℕ) (bytes : List ℕ) : Type 0 where
  pub from : ℕ
  pub to : ℕ
  pub begins : slice_get bounds place ≡ Some from
  pub ends : slice_get bounds (place + 1) ≡ Some to
  pub of_block : IsRunText from (collection_of stop (slice_range texts from to)) bytes

-- no other bytes may come back for the place of a block than its run text
abbrev pub GivesBlocksBack : Cut → List NamedText → List (List ℕ) → (ℕ → List ℕ → Type 0) → Type 0
GivesBlocksBack cut texts stop back = (bounds : List ℕ) (place : ℕ) (bytes : List ℕ) → AreBounds cut texts bounds → place + 1 < length bounds
    → back place bytes → IsTextOfBlock texts stop bounds place bytes
