-- The errors of building a collection: their numbers, their names as they are printed, and when each one comes.
use Rattle.std.specs.Prelude.{ℕ, ◌<◌, List, ◌++◌, codes, decimal}
use Rattle.ix_files.specs.declared.file_error.FileError.{FileError}
use Rattle.ix_files.specs.declared.file_error.FileError.TheVariants as file
use Rattle.ix_text.specs.Collections.{NamedText}
use Rattle.ix_merge.specs.declared.merge_error.MergeError.{MergeError}
use Rattle.ix_merge.specs.declared.merge_error.MergeError.TheVariants as merge
use Rattle.ix_build.specs.declared.build_error.BuildError.{BuildError}
use Rattle.ix_build.specs.declared.build_error.BuildError.TheVariants.{Thread, Spill, Write, Memory}
use Rattle.ix_build.specs.declared.by_makers.ByError.{ByError}
use Rattle.ix_build.specs.declared.by_makers.ByError.TheVariants as by
use Rattle.ix_pool.specs.declared.maker.MakeError.TheVariants as make
use Rattle.ix_pool.specs.declared.pool.WorkError.{WorkError}
use Rattle.ix_pool.specs.declared.pool.WorkError.TheVariants as work
use Rattle.ix_build.specs.Blocks.{IsBlockPlace}
use Rattle.ix_build.specs.Plans.{PlanValue}

-- an error's place in the list of these errors, from 1
abbrev pub build_error_number : BuildError → ℕ
build_error_number (Thread worker) = 1
build_error_number (Spill place) = 2
build_error_number Write = 3
build_error_number Memory = 4

-- the name of an error, with its worker or its place in brackets
abbrev pub build_error_name : BuildError → List ℕ
build_error_name (Thread worker) = codes "Thread(" ++ (decimal worker ++ codes ")")
build_error_name (Spill place) = codes "Spill(" ++ (decimal place ++ codes ")")
build_error_name Write = codes "Write"
build_error_name Memory = codes "Memory"

-- the errors of a merge of consecutive blocks
abbrev pub MayComeOfMerge : {E : Type 0} → MergeError E → Type 0
MayComeOfMerge (merge.Gap number) = ⊥
MayComeOfMerge (merge.Overlap number) = ⊥
MayComeOfMerge merge.StopDiffers = ⊥
MayComeOfMerge (merge.Source place error) = Unit {0}
MayComeOfMerge merge.TooLarge = ⊥
MayComeOfMerge merge.Write = Unit {0}
MayComeOfMerge merge.Memory = Unit {0}

-- the errors of work shared by makers that refuse no place
abbrev pub MayComeOfWork : WorkError → Type 0
MayComeOfWork (work.Thread worker) = Unit {0}
MayComeOfWork (work.Make place make.Refused) = ⊥
MayComeOfWork (work.Make place make.Memory) = Unit {0}
MayComeOfWork work.Memory = Unit {0}

-- the error of a merge as that of a build: a failed write, or out of memory
abbrev pub told_of_merge : {E : Type 0} → MergeError E → BuildError
told_of_merge (merge.Gap number) = Memory
told_of_merge (merge.Overlap number) = Memory
told_of_merge merge.StopDiffers = Memory
told_of_merge (merge.Source place error) = Memory
told_of_merge merge.TooLarge = Memory
told_of_merge merge.Write = Write
told_of_merge merge.Memory = Memory

-- the error of shared work as that of a build: a thread that was not started, or out of memory
abbrev pub told_of_work : WorkError → BuildError
told_of_work (work.Thread worker) = Thread worker
told_of_work (work.Make place error) = Memory
told_of_work work.Memory = Memory

-- the errors of building by makers that refuse no place, if consecutive blocks are merged
abbrev pub MayComeOfBuilding : ByError → Type 0
MayComeOfBuilding (by.Thread worker) = Unit {0}
MayComeOfBuilding (by.Make place make.Refused) = ⊥
MayComeOfBuilding (by.Make place make.Memory) = Unit {0}
MayComeOfBuilding (by.Merge error) = MayComeOfMerge error
MayComeOfBuilding by.Memory = Unit {0}

-- the error of building by makers as that of a build
abbrev pub told_of_building : ByError → BuildError
told_of_building (by.Thread worker) = Thread worker
told_of_building (by.Make place error) = Memory
told_of_building (by.Merge error) = told_of_merge error
told_of_building by.Memory = Memory

-- the error of a folder for runs that cannot be looked at, as that of its first run
abbrev pub told_of_folder : FileError → BuildError
told_of_folder file.Memory = Memory
told_of_folder error = Spill 0

-- which errors come with runs in a folder: `Thread` of one of the plan's workers, and `Spill` of a block
abbrev pub IsFolderRefusal : PlanValue → List NamedText → BuildError → Type 0
IsFolderRefusal plan texts (Thread worker) = worker < plan.workers
IsFolderRefusal plan texts (Spill place) = IsBlockPlace plan.cut texts place
IsFolderRefusal plan texts Write = Unit {0}
IsFolderRefusal plan texts Memory = Unit {0}

-- which errors come with runs in memory: `Thread` of one of the workers, and `Spill` never
abbrev pub IsBuildRefusal : ℕ → BuildError → Type 0
IsBuildRefusal workers (Thread worker) = worker < workers
IsBuildRefusal workers (Spill place) = ⊥
IsBuildRefusal workers Write = Unit {0}
IsBuildRefusal workers Memory = Unit {0}

-- which errors come of inverting by these workers
abbrev pub IsInvertRefusal : ℕ → BuildError → Type 0
IsInvertRefusal workers (Thread worker) = worker < workers
IsInvertRefusal workers (Spill place) = ⊥
IsInvertRefusal workers Write = ⊥
IsInvertRefusal workers Memory = Unit {0}

-- which errors come of merging runs in memory
abbrev pub IsMergeRefusal : BuildError → Type 0
IsMergeRefusal (Thread worker) = ⊥
IsMergeRefusal (Spill place) = ⊥
IsMergeRefusal Write = Unit {0}
IsMergeRefusal Memory = Unit {0}

-- the errors that come before a byte is written
abbrev pub IsBeforeWriting : BuildError → Type 0
IsBeforeWriting (Thread worker) = Unit {0}
IsBeforeWriting (Spill place) = ⊥
IsBeforeWriting Write = ⊥
IsBeforeWriting Memory = ⊥
