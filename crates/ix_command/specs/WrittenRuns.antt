-- What `run` makes of the files that its line names.
use Rattle.std.specs.Prelude.{ℕ, List, Option, IsSomeAnd}
use Rattle.std.specs.Borrow.{Bor}
use Rattle.clap.specs.Walk.{Text}
use Rattle.ix_text.specs.Collections.{Collection, NamedText, collection_of}
use Rattle.ix_text.specs.CollectionText.{IsCollectionText}
use Rattle.ix_run.specs.RunText.{IsRunText}
use Rattle.ix_run.specs.Runs.{IsRunOf, IsTooLarge, RunValue}
use Rattle.ix_run.specs.declared.errors.RunError.{RunError}
use Rattle.ix_run.specs.declared.errors.RunError.TheVariants as run_error
use Rattle.ix_command.specs.AskedFiles.{IsStopHeld, RefusesStop}
use Rattle.ix_ask.specs.Asking.{RefusesCollection}
use Rattle.ix_files.specs.Reading.{Holding}
use Rattle.ix_command.specs.Refusals.{IsSameOrUnsaved, IsUnread, IsUnsaved}
use Rattle.ix_ask.specs.declared.refusal.EngineRefusal.TheVariants as engine
use Rattle.ix_command.specs.declared.refusal.Refusal.{Refusal}
use Rattle.ix_command.specs.declared.refusal.Refusal.TheVariants as refusal

-- The bytes are the run text of the collection file, without the terms of the stop file, its documents counted from `first`.
pub record IsRunOfFiles (holds : Holding) (stop_file : Option (Bor Text)) (first : ℕ) (path run : Text) : Type 0 where
  pub collection : Text
  pub stop : List Text
  pub documents : List NamedText
  pub held : holds path collection
  pub stop_held : IsStopHeld holds stop_file stop
  pub read : IsCollectionText collection documents
  pub of_collection : IsRunText first (collection_of stop documents) run

-- That run text was saved under this path.
pub record IsRunSaved (holds saves : Holding) (stop_file : Option (Bor Text)) (first : ℕ) (path output : Text) : Type 0 where
  pub run : Text
  pub of_files : IsRunOfFiles holds stop_file first path run
  pub saved : saves output run

-- The text is a collection text, and this is the run of its collection, its documents counted from `first`.
pub record HasRun (text : Text) (stop : List Text) (first : ℕ) (run : RunValue) : Type 0 where
  pub documents : List NamedText
  pub read : IsCollectionText text documents
  pub of_collection : IsRunOf run first (collection_of stop documents)

-- why the collection was not inverted, its documents counted from `first`
abbrev pub RefusesInversion : Collection → ℕ → RunError → Type 0
RefusesInversion collection first run_error.TooLarge = IsTooLarge first collection
RefusesInversion collection first run_error.Memory = Unit {0}

-- Why a text and stop terms gave no run: the text is no collection text, or its collection was not inverted.
abbrev pub RefusesRun : Text → List Text → ℕ → Refusal → Type 0
RefusesRun text stop first (refusal.Engine (engine.Collection error)) = RefusesCollection text error
RefusesRun text stop first (refusal.Engine (engine.Run error)) =
    (documents : List NamedText) × IsCollectionText text documents × RefusesInversion (collection_of stop documents) first error
RefusesRun text stop first _ = ⊥

-- Why `run` was refused: the stop file is refused, the collection file cannot be read or gives no run, or the run text that
-- it gives cannot be saved.
pub data IsRunRefused (holds : Holding) (stop_file : Option (Bor Text)) (first : ℕ) (path output : Text) : Refusal → Type 0 where
  no_output : {told : Refusal} → IsSameOrUnsaved output told → IsRunRefused holds stop_file first path output told
  no_stop_list : {told : Refusal} → IsSomeAnd stop_file (λ named. RefusesStop holds named.now told) → IsRunRefused holds stop_file first path output told
  no_file : {told : Refusal} → IsUnread path told → IsRunRefused holds stop_file first path output told
  no_run : {told : Refusal} (text : Text) (stop : List Text) → holds path text → IsStopHeld holds stop_file stop → RefusesRun text stop first told → IsRunRefused holds stop_file first path output told
  unsaved : {told : Refusal} (run : Text) → IsRunOfFiles holds stop_file first path run → IsUnsaved output told → IsRunRefused holds stop_file first path output told
