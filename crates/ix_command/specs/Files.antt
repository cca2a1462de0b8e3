-- The files in which the runs of a build are kept.
use Rattle.std.specs.Prelude.{ℕ, List, Option}
use Rattle.ix_files.specs.Slots.{Place}
use Rattle.ix_build.specs.ReadBack.{TellBytes}
use Rattle.ix_build.specs.RunNames.{MayComeBack}

-- What is known of the files in which runs are kept: whether those who read them tell their bytes, and which bytes may come
-- back for a block.
pub record Keeping : Type 1 where
  pub told : Type 0
  pub back : ℕ → List ℕ → Type 0

-- what such files promise
abbrev pub keeping_of : {S R : Type 0} → (R → Option (List ℕ)) → (S → List Place) → (S → ℕ → List ℕ → Type 0) → Keeping
keeping_of remaining shared back = record { told = TellBytes remaining; back = MayComeBack shared back }
