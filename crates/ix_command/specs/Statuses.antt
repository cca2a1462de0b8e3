-- What an exit status says: that help was printed, that a command was done, or why it was refused. The words are those of
-- the command line with `help X` spelled as `X --help`.
use Rattle.std.specs.Prelude.{◌≡◌, ◌≢◌, ℕ, zero, suc, Bool, true, false, ◌⊎◌, ◌<◌, List, Option, ⊤}
use Rattle.std.specs.Borrow.{Bor}
use Rattle.std.specs.Io.KnownBytes.{Appends, Keeps}
use Rattle.clap.specs.Walk.{Text}
use Rattle.clap.specs.Faults.{fault_of}
use Rattle.clap.specs.Words.{IsAmong}
use Rattle.clap.specs.declared.error.kind.ErrorKind.{ErrorKind}
use Rattle.clap.specs.declared.error.kind.ErrorKind.TheVariants.{DisplayHelp}
use Rattle.ix_command.specs.AskedFiles.{IsAnsweredFromFiles, IsAskRefused}
use Rattle.ix_command.specs.BuiltIndexes.{IsBuilt, IsBuildRefused}
use Rattle.ix_command.specs.BuiltRuns.{LeavesNoRuns}
use Rattle.ix_command.specs.CheckedFiles.{AreChecked, IsCheckRefused}
use Rattle.ix_line.specs.Commands.{ix_app}
use Rattle.ix_command.specs.Files.{Keeping}
use Rattle.ix_files.specs.Outputs.{LeavesOthers, LeavesTarget, now_in}
use Rattle.ix_files.specs.Reading.{Holding}
use Rattle.ix_files.specs.Slots.{IsSame, Stops}
use Rattle.ix_files.specs.Views.{LeavesOnly, View}
use Rattle.ix_line.specs.Help.{AsksForHelp, as_flag, help_of}
use Rattle.ix_line.specs.Lines.{Conflicts, Reads, texts_of}
use Rattle.ix_command.specs.LiveScripts.{IsLiveRefused, IsLived}
use Rattle.ix_command.specs.MergedRuns.{IsMerged, IsMergeRefused}
use Rattle.ix_command.specs.Refusals.{IsTold, IsUnwritten}
use Rattle.ix_command.specs.StandardInput.{ReadsInputTwice}
use Rattle.ix_command.specs.StoredArchives.{AddsFiles, ChangesArchive, IsAddRefused, IsArchiveSearched, IsArchiveUnsearched, IsRemoveRefused, KeepsAdding, KeepsRemoving, RemovesSome, Storing}
use Rattle.ix_command.specs.TrustedFiles.{IsListingDone, IsListingUndone, IsSearchDone, IsSearchUndone}
use Rattle.ix_command.specs.Upgrades.{IsUpgradeRefused, IsUpgraded}
use Rattle.ix_command.specs.WrittenRuns.{IsRunRefused, IsRunSaved}
use Rattle.ix_line.specs.declared.error.LineError.{LineError}
use Rattle.ix_line.specs.declared.line.Line.{Line}
use Rattle.ix_line.specs.declared.line.Line.TheVariants.{Add, Ask, Build, Check, Live, Merge, Remove, Run, Search, Terms, Upgrade}
use Rattle.ix_ask.specs.declared.refusal.EngineRefusal.TheVariants as engine
use Rattle.ix_command.specs.declared.refusal.Refusal.{Refusal}
use Rattle.ix_command.specs.declared.refusal.Refusal.TheVariants as refusal

-- the words, with `help X` spelled as `X --help`
abbrev pub spelled : List (Bor Text) → List Text
spelled words = as_flag (texts_of words)

-- the words ask for help, and it was printed: the standard output gained it, and nothing else
pub record IsHelped (words : List Text) (old new : Option Text) : Type 0 where
  pub asked : AsksForHelp words
  pub printed : Appends old new (help_of words)

-- What the line asks for was done, and so much was found, or so many files have a fault; where it asks for a file, one was saved,
-- and nothing was printed.
abbrev pub IsDone : Holding → Holding → Keeping → Storing → Line → Option Text → Option Text → ℕ → Type 0
IsDone holds saves kept stored (Ask stop_file plan collection query) old new count = IsAnsweredFromFiles holds stop_file collection.now query.now old new count
IsDone holds saves kept stored (Build stop_file plan collection index) old new count =
    IsBuilt holds saves kept stop_file plan collection.now index.now × Keeps old new × (count ≡ 1)
IsDone holds saves kept stored (Add stop_file plan archive collection) old new count =
    AddsFiles holds stored stop_file archive.now collection.now × Keeps old new × (count ≡ 1)
IsDone holds saves kept stored (Remove archive names) old new count = RemovesSome holds stored archive.now names count × Keeps old new
IsDone holds saves kept stored (Live stop_file plan searchers script) old new count = IsLived holds stop_file script.now old new count
IsDone holds saves kept stored (Search index query trust) old new count =
    IsSearchDone trust holds index.now query.now old new count ⊎ IsArchiveSearched stored index.now query.now old new count
IsDone holds saves kept stored (Terms index pattern trust) old new count = IsListingDone trust holds index.now pattern.now old new count
IsDone holds saves kept stored (Check paths) old new count = AreChecked holds (texts_of paths.items) old new count
IsDone holds saves kept stored (Run stop_file first collection run) old new count =
    IsRunSaved holds saves stop_file first collection.now run.now × Keeps old new × (count ≡ 1)
IsDone holds saves kept stored (Merge index inputs) old new count =
    IsMerged holds saves (texts_of inputs.items) index.now × Keeps old new × (count ≡ 1)
IsDone holds saves kept stored (Upgrade old_file new_file) old new count =
    IsUpgraded holds saves old_file.now new_file.now × Keeps old new × (count ≡ 1)

-- The line changes the file that it asks for, and no other, but `build` those of its runs, of which none is left; if it asks for
-- none, it changes none. `add` and `remove` change names in the folder of the archive.
abbrev pub LeavesFiles : Line → View → View → Type 0
LeavesFiles (Build stop_file plan collection index) old new =
    LeavesOthers index.now old new ⊎ LeavesNoRuns stop_file plan collection.now index.now old new
LeavesFiles (Add stop_file plan archive collection) old new = ChangesArchive archive.now old new
LeavesFiles (Remove archive names) old new = ChangesArchive archive.now old new
LeavesFiles (Run stop_file first collection run) old new = LeavesOthers run.now old new
LeavesFiles (Merge index inputs) old new = LeavesOthers index.now old new
LeavesFiles (Upgrade old_file new_file) old new = LeavesOthers new_file.now old new
LeavesFiles _ old new = IsSame old.slots new.slots

-- The file that the line asks for is as it was; or it was saved, and a crash may bring back what was there.
abbrev pub IsUndone : Holding → Keeping → Line → View → View → Type 0
IsUndone holds kept (Build stop_file plan collection index) old new =
    LeavesTarget index.now old new ⊎ IsBuilt holds (now_in old new) kept stop_file plan collection.now index.now
IsUndone holds kept (Run stop_file first collection run) old new =
    LeavesTarget run.now old new ⊎ IsRunSaved holds (now_in old new) stop_file first collection.now run.now
IsUndone holds kept (Merge index inputs) old new =
    LeavesTarget index.now old new ⊎ IsMerged holds (now_in old new) (texts_of inputs.items) index.now
IsUndone holds kept (Upgrade old_file new_file) old new =
    LeavesTarget new_file.now old new ⊎ IsUpgraded holds (now_in old new) old_file.now new_file.now
IsUndone holds kept _ old new = ⊤

-- A stop at any moment leaves of the archive that the line changes what it could leave before, or the changed one.
abbrev pub KeepsArchive : Holding → Line → View → View → Type 0
KeepsArchive holds (Add stop_file plan archive collection) old new = KeepsAdding holds stop_file archive.now collection.now old new
KeepsArchive holds (Remove archive names) old new = KeepsRemoving holds names archive.now old new
KeepsArchive holds _ old new = ⊤

-- A stop at any moment leaves the files as they were; or the words are a line, and the archive that it changes is kept so.
abbrev pub KeepsArchiveOf : Holding → List Text → View → View → Type 0
KeepsArchiveOf holds words old new = LeavesOnly (Stops old.slots) old new ⊎ ((line : Line) × Reads words line × KeepsArchive holds line old new)

-- No file changes, or the words are a line, and it alone does.
abbrev pub LeavesFilesOf : List Text → View → View → Type 0
LeavesFilesOf words old new = IsSame old.slots new.slots ⊎ ((line : Line) × Reads words line × LeavesFiles line old new)

abbrev pub AreUndone : Holding → Keeping → List Text → View → View → Type 0
AreUndone holds kept words old new = IsSame old.slots new.slots ⊎ ((line : Line) × Reads words line × IsUndone holds kept line old new)

-- what the line asks for was refused for this reason, and leaves this of the standard output
abbrev pub IsLineRefused : Holding → Storing → Line → Option Text → Option Text → Refusal → Type 0
IsLineRefused holds stored (Ask stop_file plan collection query) old new told =
    IsAskRefused holds stop_file plan.workers collection.now query.now old new told
IsLineRefused holds stored (Build stop_file plan collection index) old new told =
    IsBuildRefused holds stop_file plan collection.now index.now told × Keeps old new
IsLineRefused holds stored (Add stop_file plan archive collection) old new told =
    IsAddRefused holds stop_file archive.now collection.now told × Keeps old new
IsLineRefused holds stored (Remove archive names) old new told = IsRemoveRefused holds archive.now names told × Keeps old new
IsLineRefused holds stored (Live stop_file plan searchers script) old new told = IsLiveRefused holds stop_file plan.workers script.now old new told
IsLineRefused holds stored (Search index query trust) old new told =
    IsSearchUndone trust holds index.now query.now old new told ⊎ IsArchiveUnsearched stored index.now query.now old new told
IsLineRefused holds stored (Terms index pattern trust) old new told = IsListingUndone trust holds index.now pattern.now old new told
IsLineRefused holds stored (Check paths) old new told = IsCheckRefused holds (texts_of paths.items) old new told
IsLineRefused holds stored (Run stop_file first collection run) old new told = IsRunRefused holds stop_file first collection.now run.now told × Keeps old new
IsLineRefused holds stored (Merge index inputs) old new told =
    IsMergeRefused holds (texts_of inputs.items) index.now told × Keeps old new
IsLineRefused holds stored (Upgrade old_file new_file) old new told = IsUpgradeRefused holds old_file.now new_file.now told × Keeps old new

-- the line is one of `check`
abbrev pub IsCheck : Line → Type 0
IsCheck (Check paths) = Unit {0}
IsCheck _ = ⊥

-- The exit status of a line that found so much: 0, or 1 if that is nothing. Of a line of `check`, if so many files have a fault:
-- 2, or 0 if none has one.
abbrev pub status_of : Bool → ℕ → ℕ
status_of false zero = 1
status_of false (suc count) = 0
status_of true zero = 0
status_of true (suc count) = 2

-- the words are a line that was done, and something was found
pub record FindsSome (holds saves : Holding) (kept : Keeping) (stored : Storing) (words : List Text) (old new : Option Text) : Type 0 where
  pub line : Line
  pub count : ℕ
  pub read : Reads words line
  pub once : ¬ (ReadsInputTwice line)
  pub asks : ¬ (IsCheck line)
  pub some : 0 < count
  pub done : IsDone holds saves kept stored line old new count

-- the words are a line that was done, and nothing was found
pub record FindsNone (holds saves : Holding) (kept : Keeping) (stored : Storing) (words : List Text) (old new : Option Text) : Type 0 where
  pub line : Line
  pub read : Reads words line
  pub once : ¬ (ReadsInputTwice line)
  pub asks : ¬ (IsCheck line)
  pub done : IsDone holds saves kept stored line old new 0

-- the words are a line of `check` that was done, and some files have a fault
pub record FindsFaults (holds saves : Holding) (kept : Keeping) (stored : Storing) (words : List Text) (old new : Option Text) : Type 0 where
  pub line : Line
  pub count : ℕ
  pub read : Reads words line
  pub once : ¬ (ReadsInputTwice line)
  pub checks : IsCheck line
  pub some : 0 < count
  pub done : IsDone holds saves kept stored line old new count

-- the words are a line of `check` that was done, and no file has a fault
pub record FindsNoFault (holds saves : Holding) (kept : Keeping) (stored : Storing) (words : List Text) (old new : Option Text) : Type 0 where
  pub line : Line
  pub read : Reads words line
  pub once : ¬ (ReadsInputTwice line)
  pub checks : IsCheck line
  pub done : IsDone holds saves kept stored line old new 0

-- the words have a fault, and not only that they ask for help, or they give a command what excludes each other
abbrev pub AreMistaken : List Text → Type 0
AreMistaken words = ((kind : ErrorKind) × IsAmong kind (fault_of ix_app words) × (kind ≢ DisplayHelp)) ⊎ ((error : LineError) × Conflicts words error)

-- Why words that are no line were refused, and what that leaves of the standard output: they are mistaken, memory ran out,
-- or the help that they ask for cannot be written.
abbrev pub IsLineless : List Text → Option Text → Option Text → Refusal → Type 0
IsLineless words old new refusal.Arguments = AreMistaken words × Keeps old new
IsLineless words old new (refusal.Engine engine.Memory) = Keeps old new
IsLineless words old new told = AsksForHelp words × IsUnwritten (help_of words) old new told

-- The words were refused for this reason, and this is left of the standard output: they are no line, or one that
-- reads the standard input twice, or what their line asks for was refused.
pub data IsRefusedFor (holds : Holding) (stored : Storing) (words : List Text) (old new : Option Text) (told : Refusal) : Type 0 where
  lineless : IsLineless words old new told → IsRefusedFor holds stored words old new told
  twice : (line : Line) → Reads words line → ReadsInputTwice line → told ≡ refusal.Arguments → Keeps old new → IsRefusedFor holds stored words old new told
  undone : (line : Line) → Reads words line → IsLineRefused holds stored line old new told → IsRefusedFor holds stored words old new told

-- The words were refused for one reason, and the error output gained the line that tells it.
pub record IsRefused (holds : Holding) (stored : Storing) (words : List Text) (old new err_old err_new : Option Text) : Type 0 where
  pub told : Refusal
  pub reason : IsRefusedFor holds stored words old new told
  pub line : IsTold told err_old err_new
