-- What `check` finds of index files, and what it prints.
use Rattle.std.specs.Prelude.{◌≡◌, ◌+◌, ℕ, List, [], ◌∷◌, ◌++◌, count_by, flat_map, is_some, Option, None, Some, IfSome, codes}
use Rattle.std.specs.List.{AllZip}
use Rattle.std.specs.Io.KnownBytes.{Appends, Keeps}
use Rattle.clap.specs.Walk.{Text}
use Rattle.ix_text.specs.Collections.{Collection}
use Rattle.ix_index_text.specs.Sections.{Version}
use Rattle.ix_file.specs.declared.open_error.OpenError.TheVariants as open_error
use Rattle.ix_files.specs.Reading.{Holding}
use Rattle.ix_output.specs.Sinks.{AppendsFront}
use Rattle.ix_command.specs.IndexFiles.{IsIndexHeld, RefusesIndex}
use Rattle.ix_command.specs.Refusals.{shown, text_of}
use Rattle.ix_ask.specs.declared.output.Lines.{Lines}
use Rattle.ix_ask.specs.declared.refusal.EngineRefusal.TheVariants as engine
use Rattle.ix_command.specs.declared.refusal.Refusal.{Refusal}
use Rattle.ix_command.specs.declared.refusal.Refusal.TheVariants as refusal

-- The refusal tells that memory ran out.
abbrev pub TellsMemory : Refusal → Type 0
TellsMemory (refusal.Engine engine.Memory) = Unit {0}
TellsMemory (refusal.Engine (engine.Index open_error.Memory)) = Unit {0}
TellsMemory _ = ⊥

-- the text of a fault, without the path of the file
abbrev pub fault_of : Refusal → Option Text
fault_of (refusal.Read path) = Some (codes "file 1: Read")
fault_of told = text_of told

-- the path with its control characters shown, a TAB, the text of the fault, LF
abbrev pub fault_line : Text → Text → Text
fault_line path fault = shown path ++ 9 ∷ (fault ++ 10 ∷ [])

-- Why the file of this path is no index file that can be read, and the line that says so.
pub record IsFaulty (holds : Holding) (path line : Text) : Type 0 where
  pub told : Refusal
  pub refuses : RefusesIndex holds path told
  pub settled : ¬ (TellsMemory told)
  pub spelled : IfSome (fault_of told) (λ fault. line ≡ fault_line path fault)

-- What was judged of the file of this path: it holds an index text, or the refusal tells why it gives no index.
abbrev pub IsJudged : Holding → Text → Option Refusal → Type 0
IsJudged holds path None = (version : Version) × (collection : Collection) × IsIndexHeld holds path version collection
IsJudged holds path (Some told) = RefusesIndex holds path told × ¬ (TellsMemory told)

-- The lines gained that of this fault of the file of this path.
pub record GainsFault (path : Text) (told : Refusal) (old new : Text) : Type 0 where
  pub line : Text
  pub spelled : IfSome (fault_of told) (λ fault. line ≡ fault_line path fault)
  pub gained : new ≡ old ++ line

-- What was found of the file of this path: it holds an index text, and no line says anything of it; or it has a fault, and one does.
abbrev pub IsLookedAt : Holding → Text → Option Text → Type 0
IsLookedAt holds path None = (version : Version) × (collection : Collection) × IsIndexHeld holds path version collection
IsLookedAt holds path (Some line) = IsFaulty holds path line

-- the line, if there is one
abbrev pub line_or_none : Option Text → Text
line_or_none None = []
line_or_none (Some line) = line

-- how many files have a fault, with that of which this was found
abbrev pub count_with : Option Text → ℕ → ℕ
count_with None count = count
count_with (Some line) count = count + 1

-- The lines gained that of the file of this path, if it has a fault.
pub record LooksAt (holds : Holding) (path : Text) (old new : Lines) : Type 0 where
  pub found : Option Text
  pub looked_at : IsLookedAt holds path found
  pub gained : new.bytes.items ≡ old.bytes.items ++ line_or_none found
  pub counted : new.count ≡ count_with found old.count

-- What was found of the files of these paths, in their order, is spelled in these lines, and so many files have a fault.
pub record AreLookedAt (holds : Holding) (paths : List Text) (lines : Text) (count : ℕ) : Type 0 where
  pub found : List (Option Text)
  pub each : AllZip (IsLookedAt holds) paths found
  pub spelled : lines ≡ flat_map line_or_none found
  pub counted : count ≡ count_by is_some found

-- The files were looked at, and the lines went out whole.
pub record AreChecked (holds : Holding) (paths : List Text) (old new : Option Text) (count : ℕ) : Type 0 where
  pub lines : Text
  pub looked_at : AreLookedAt holds paths lines count
  pub written : Appends old new lines

-- The files were looked at, and a beginning of the lines went out.
pub record IsCheckCut (holds : Holding) (paths : List Text) (old new : Option Text) : Type 0 where
  pub lines : Text
  pub count : ℕ
  pub looked_at : AreLookedAt holds paths lines count
  pub front : AppendsFront old new lines

-- Why `check` was refused, and what it leaves of the standard output: that cannot be written, or memory ran out.
abbrev pub IsCheckRefused : Holding → List Text → Option Text → Option Text → Refusal → Type 0
IsCheckRefused holds paths old new (refusal.Write path) = (path.now ≡ codes "-") × IsCheckCut holds paths old new
IsCheckRefused holds paths old new told = TellsMemory told × Keeps old new
