-- Plans as contracts see them.
use Rattle.std.specs.Prelude.{ℕ, ◌<◌, ◌≤◌, List, Option, Some, None, string_bytes}
use Rattle.ix_build.specs.declared.plan.Cut.{Cut}
use Rattle.ix_build.specs.declared.plan.Runs.{Runs}
use Rattle.ix_build.specs.declared.plan.Runs.TheVariants.{Memory, Folder}
use Rattle.ix_build.specs.Blocks.{cut_number}

-- how a collection is cut into blocks, how many workers make these, and in which folder their runs are kept, if not in memory
pub record PlanValue : Type 0 where
  pub cut : Cut
  pub workers : ℕ
  pub folder : Option (List ℕ)

-- the plan of these
abbrev pub plan_of : Cut → ℕ → Option (List ℕ) → PlanValue
plan_of cut workers folder = record { cut = cut; workers = workers; folder = folder }

-- the path of the folder in which runs are kept, or none if they are kept in memory
abbrev pub folder_of : Runs → Option (List ℕ)
folder_of Memory = None
folder_of (Folder path) = Some (string_bytes path)

-- The cut's number is at least 1, and the workers are 1 to 64.
pub record IsPlan (plan : PlanValue) : Type 0 where
  pub some : 0 < cut_number plan.cut
  pub some_workers : 0 < plan.workers
  pub few_workers : plan.workers ≤ 64
