-- The result of building by makers of runs.
use Rattle.std.specs.Prelude.{◌≡◌, ℕ, ◌<◌, List, length, map, Option}
use Rattle.std.specs.Io.KnownBytes.{Keeps}
use Rattle.std.specs.declared.alloc.AllocError.{AllocError}
use Rattle.ix_run.specs.Heads.{Heading}
use Rattle.ix_run.specs.Runs.{RunValue}
use Rattle.ix_run.specs.RunSources.{heading_shown}
use Rattle.ix_merge.specs.Refusals.{AreMergeable, IsEarly, IsRefusal}
use Rattle.ix_merge.specs.declared.merge_error.MergeError.{MergeError}
use Rattle.ix_merge.specs.declared.merge_error.MergeError.TheVariants as merge
use Rattle.ix_build.specs.declared.by_makers.ByError.{ByError}
use Rattle.ix_build.specs.declared.by_makers.ByError.TheVariants.{Thread, Make, Merge, Memory}
use Rattle.ix_pool.specs.declared.maker.Asked.{Asked}
use Rattle.ix_pool.specs.Outcomes.{IsMade, IsRefusedAt, IsStopped}
use Rattle.ix_build.specs.RunPieces.{LeavesRunsPart, WritesRuns}

-- the headings of runs
abbrev pub headings_of : List RunValue → List Heading
headings_of runs = map heading_shown runs

-- A merge of the runs failed with this error, and what it left.
pub record IsMergeRefused (runs : List RunValue) (error : MergeError AllocError) (before now : Option (List ℕ)) : Type 0 where
  pub refusal : IsRefusal (headings_of runs) error
  pub early : IsEarly error → Keeps before now
  pub unfinished : LeavesRunsPart runs before now (error ≡ merge.Write)

module _ {M : Type 0} (askings : M → List Asked) (gives : M → ℕ → RunValue → Type 0) (follows : M → M → Type 0) where
  -- A run was made of each place, and since `before` the index text of their concatenation was written.
  pub record IsBuilt (makers : List M) (count : ℕ) (after : List M) (before now : Option (List ℕ)) : Type 0 where
    pub runs : List RunValue
    pub made : IsMade askings gives follows makers count after runs
    pub mergeable : AreMergeable (headings_of runs)
    pub written : WritesRuns runs before now

  -- A run was made of each place, and their merge failed.
  pub record IsUnmerged (makers : List M) (count : ℕ) (after : List M) (error : MergeError AllocError) (before now : Option (List ℕ)) : Type 0 where
    pub runs : List RunValue
    pub made : IsMade askings gives follows makers count after runs
    pub refused : IsMergeRefused runs error before now

  -- What an error says, and what it leaves. After `Thread` nothing is said of the makers.
  abbrev pub FailsToBuild : List M → ℕ → List M → Option (List ℕ) → Option (List ℕ) → ByError → Type 0
  FailsToBuild makers count after before now (Thread w) = (w < length makers) × Keeps before now
  FailsToBuild makers count after before now (Make place error) = IsRefusedAt askings gives follows makers count after place error × Keeps before now
  FailsToBuild makers count after before now (Merge error) = IsUnmerged makers count after error before now
  FailsToBuild makers count after before now Memory = IsStopped askings gives follows makers after × Keeps before now
