-- What `merge` opens of the files that its line names, and what a source of each may yield.
use Rattle.std.specs.Prelude.{◌≡◌, ◌⊎◌, ℕ, ◌+◌, ◌^◌, ◌<◌, ◌≤◌, List, [], ◌∷◌, ◌++◌, length, max, take, Option, Some, slice_get, ⊤}
use Rattle.clap.specs.Walk.{Text}
use Rattle.ix_text.specs.Collections.{Collection}
use Rattle.ix_text.specs.Parts.{DictionaryEntry}
use Rattle.ix_file.specs.Opened.{IsIndexOf, Opened}
use Rattle.ix_file.specs.Sections.{Version}
use Rattle.ix_run.specs.Heads.{Heading, parts_with}
use Rattle.ix_run.specs.Reading.{HasRead, MayYield}
use Rattle.ix_run.specs.RunReaders.{heading_read}
use Rattle.ix_run.specs.RunSources.{heading_shown, unread}
use Rattle.ix_run.specs.RunText.{run_layout}
use Rattle.ix_run.specs.Runs.{run_value}
use Rattle.ix_run.specs.Sources.{IsUnread}
use Rattle.ix_run.specs.RunReader.{RunReader}
use Rattle.ix_run.specs.RunTextError.TheVariants.{TooLarge}
use Rattle.ix_merge.specs.declared.any_source.AnySource.{AnySource}
use Rattle.ix_merge.specs.declared.any_source.AnySource.TheVariants as source
use Rattle.ix_merge.specs.declared.merge_error.MergeError.TheVariants as merge_error
use Rattle.ix_files.specs.Reading.{Holding}
use Rattle.ix_command.specs.IndexFiles.{IsIndexHeld, IsOpened as IsIndexOpened}
use Rattle.ix_command.specs.MergedRuns.{HoldsHead, StandsBehind, end_of, greatest_end}
use Rattle.ix_command.specs.declared.commands.merge.inputs.Input.{Input}
use Rattle.ix_command.specs.declared.commands.merge.inputs.Input.TheVariants as input
use Rattle.ix_command.specs.declared.commands.merge.inputs.Inputs.{Inputs}
use Rattle.ix_command.specs.declared.commands.merge.inputs.Part.{Part}
use Rattle.ix_command.specs.declared.commands.merge.inputs.Part.TheVariants as part
use Rattle.ix_ask.specs.declared.refusal.EngineRefusal.TheVariants as engine
use Rattle.ix_command.specs.declared.refusal.Refusal.{Refusal}
use Rattle.ix_command.specs.declared.refusal.Refusal.TheVariants as refusal

-- ---- one file

-- The reader stands at the front of the run in a file: it may yield what the file holds, and nothing else.
pub record IsOpened {R : Type 0} (Holds : Text → Type 0) (remaining : R → Option Text) (reader : RunReader R) : Type 0 where
  pub unread : IsUnread HasRead reader
  pub head : HoldsHead Holds (heading_read reader)
  pub yielded : (entries : List DictionaryEntry) → MayYield remaining reader [] entries
      → Holds (run_layout (heading_read reader).first (parts_with (heading_read reader) entries))

-- what was opened is the run, or the index, in the file of this path
abbrev pub IsInput : {R : Type 0} → Holding → (R → Option Text) → Text → Input R → Type 0
IsInput holds remaining path (input.Run reader) = IsOpened (holds path) remaining reader
IsInput holds remaining path (input.Index volume) = IsIndexOpened holds path volume

-- documents of a run have numbers below 2^28
abbrev pub IsNear : {R : Type 0} → Input R → Type 0
IsNear (input.Run reader) = end_of (heading_read reader) ≤ 2 ^ 28
IsNear (input.Index volume) = ⊤

-- ---- all of them

-- An index that stands in the place of a file: its volume has this number, and its documents count from `first`, behind
-- those before.
pub record IsIndexPart (holds : Holding) (path : Text) (volumes : List Opened) (before : List Heading) (first number : ℕ) (heading : Heading) : Type 0 where
  pub version : Version
  pub collection : Collection
  pub held : IsIndexHeld holds path version collection
  pub volume : Opened
  pub numbered : slice_get volumes number ≡ Some volume
  pub index : IsIndexOf volume version collection
  pub behind : StandsBehind before first
  pub within : first + length volume.parts.rows ≤ 2 ^ 28
  pub headed : heading_shown (run_value first volume.parts) ≡ heading

-- what stands in the place of the file of this path is the run in it, or the index, and has this heading
abbrev pub IsPart : {R : Type 0} → Holding → (R → Option Text) → Text → List Opened → List Heading → Part R → Heading → Type 0
IsPart holds remaining path volumes before (part.Run reader) heading = IsOpened (holds path) remaining reader × (heading_read reader ≡ heading)
IsPart holds remaining path volumes before (part.Index first number) heading = IsIndexPart holds path volumes before first number heading

-- The first so many files of these paths were opened.
pub record AreOpened {R : Type 0} (holds : Holding) (remaining : R → Option Text) (paths : List Text) (inputs : Inputs R) (count : ℕ) : Type 0 where
  pub headings : List Heading
  pub as_many : length inputs.parts.items ≡ count
  pub headed : length headings ≡ count
  pub end : inputs.end ≡ greatest_end headings
  pub near : inputs.end ≤ 2 ^ 28
  pub each : (place : ℕ) (path : Text) (part : Part R) (heading : Heading) → slice_get paths place ≡ Some path
      → slice_get inputs.parts.items place ≡ Some part → slice_get headings place ≡ Some heading
      → IsPart holds remaining path inputs.volumes.items (take place headings) part heading

-- One more file stands behind those that were opened.
abbrev pub Adds : {R : Type 0} → Inputs R → Inputs R → Input R → Type 0
Adds old new (input.Run reader) = (new.parts.items ≡ old.parts.items ++ part.Run reader ∷ [])
    × (new.volumes.items ≡ old.volumes.items)
    × (new.end ≡ max old.end (end_of (heading_read reader)))
Adds old new (input.Index volume) = (new.parts.items ≡ old.parts.items ++ part.Index old.end (length old.volumes.items) ∷ [])
    × (new.volumes.items ≡ old.volumes.items ++ volume ∷ [])
    × (new.end ≡ old.end + length volume.parts.rows)
    × (new.end ≤ 2 ^ 28)

-- why an index does not, at this place: memory ran out, or it has too many documents behind so many numbers
abbrev pub RefusesIndex : ℕ → ℕ → Opened → Refusal → Type 0
RefusesIndex end place volume told = (told ≡ refusal.Engine engine.Memory)
    ⊎ ((2 ^ 28 < end + length volume.parts.rows) × (told ≡ refusal.Engine (engine.Merge (merge_error.Source place TooLarge))))

-- why a file does not: a run does not for want of memory alone
abbrev pub RefusesMore : {R : Type 0} → ℕ → ℕ → Input R → Refusal → Type 0
RefusesMore end place (input.Run reader) told = told ≡ refusal.Engine engine.Memory
RefusesMore end place (input.Index volume) told = RefusesIndex end place volume told

-- ---- sources

-- an index of this number is there, and its documents have numbers below 2^28
abbrev pub StandsIn : {R : Type 0} → List Opened → Part R → Type 0
StandsIn indexes (part.Run reader) = ⊤
StandsIn indexes (part.Index first number) = (index : Opened) × (slice_get indexes number ≡ Some index) × (first + length index.parts.rows ≤ 2 ^ 28)

-- the source is that of the run, or of the index of that number, of which nothing was asked yet
abbrev pub IsSourceOf : {R : Type 0} → List Opened → Part R → AnySource R → Type 0
IsSourceOf indexes (part.Run reader) made = made ≡ source.Run reader
IsSourceOf indexes (part.Index first number) made = (index : Opened) × (slice_get indexes number ≡ Some index)
    × (made ≡ source.Index (unread (run_value first index.parts)))

-- These are the sources of all, in their order.
pub record AreSourcesOf {R : Type 0} (indexes : List Opened) (parts : List (Part R)) (sources : List (AnySource R)) : Type 0 where
  pub as_many : length sources ≡ length parts
  pub each : (place : ℕ) (part : Part R) (made : AnySource R) → slice_get parts place ≡ Some part → slice_get sources place ≡ Some made
      → IsSourceOf indexes part made
