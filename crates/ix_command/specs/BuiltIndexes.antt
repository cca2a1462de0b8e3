-- What `build` makes of the files that its line names.
use Rattle.std.specs.Prelude.{◌≡◌, List, None, Option, Some, IsSomeAnd}
use Rattle.std.specs.Borrow.{Bor}
use Rattle.clap.specs.Walk.{Text}
use Rattle.ix_text.specs.Collections.{NamedText, collection_of}
use Rattle.ix_text.specs.CollectionText.{IsCollectionText}
use Rattle.ix_build.specs.BuildErrors.{IsBuildRefusal, IsFolderRefusal}
use Rattle.ix_build.specs.GivenBack.{GivesBlocksBack}
use Rattle.ix_build.specs.Plans.{PlanValue}
use Rattle.ix_build.specs.declared.build_error.BuildError.{BuildError}
use Rattle.ix_command.specs.AskedFiles.{IsStopHeld, RefusesStop}
use Rattle.ix_ask.specs.Asking.{RefusesCollection}
use Rattle.ix_command.specs.Files.{Keeping}
use Rattle.ix_files.specs.Reading.{Holding}
use Rattle.ix_command.specs.Refusals.{IsFolderLocked, IsSameOrUnsaved, IsUnread, IsUnsaved}
use Rattle.ix_command.specs.SavedIndexes.{SavesAlike, SavesIndex}
use Rattle.ix_ask.specs.declared.refusal.EngineRefusal.TheVariants as engine
use Rattle.ix_command.specs.declared.refusal.Refusal.{Refusal}
use Rattle.ix_command.specs.declared.refusal.Refusal.TheVariants as refusal

-- These are the stop terms of the stop file, and the documents of the collection file.
pub record AreOfFiles (holds : Holding) (stop_file : Option (Bor Text)) (path : Text) (stop : List Text) (documents : List NamedText) : Type 0 where
  pub text : Text
  pub held : holds path text
  pub stop_held : IsStopHeld holds stop_file stop
  pub read : IsCollectionText text documents

-- The runs of a plan come back as they were made: they are kept in memory, or in a folder of files that tell their bytes and
-- give back nothing but the runs of the blocks.
pub data ComeBack (kept : Keeping) (plan : PlanValue) (stop : List Text) (documents : List NamedText) : Type 0 where
  of_memory : plan.folder ≡ None → ComeBack kept plan stop documents
  of_folder : (folder : Text) → plan.folder ≡ Some folder → kept.told
      → GivesBlocksBack plan.cut documents stop kept.back → ComeBack kept plan stop documents

-- The index text of version 2 of the collection of the collection file, without the terms of the stop file, was saved under
-- this path, where the runs come back as they were made. Whatever comes back, that of one with the same stop terms, names and
-- token counts was.
pub record IsBuilt (holds saves : Holding) (kept : Keeping) (stop_file : Option (Bor Text)) (plan : PlanValue) (path output : Text) : Type 0 where
  pub stop : List Text
  pub documents : List NamedText
  pub of_files : AreOfFiles holds stop_file path stop documents
  pub saved : ComeBack kept plan stop documents → SavesIndex saves output (collection_of stop documents)
  pub alike : SavesAlike saves output (collection_of stop documents)

-- why the text gave no documents
abbrev pub RefusesDocuments : Text → Refusal → Type 0
RefusesDocuments text (refusal.Engine (engine.Collection error)) = RefusesCollection text error
RefusesDocuments text _ = ⊥

-- The error is one that comes of these documents by this plan; `Spill` comes of runs in a folder alone.
pub record IsRefusalBy (plan : PlanValue) (documents : List NamedText) (error : BuildError) : Type 0 where
  pub any : IsFolderRefusal plan documents error
  pub of_memory : plan.folder ≡ None → IsBuildRefusal plan.workers error

-- Why these documents were not built by this plan into what was to be saved under this path.
abbrev pub IsUnbuilt : PlanValue → List NamedText → Text → Refusal → Type 0
IsUnbuilt plan documents path (refusal.Engine (engine.Build error)) = IsRefusalBy plan documents error
IsUnbuilt plan documents path (refusal.Locked folder) = IsFolderLocked plan (refusal.Locked folder)
IsUnbuilt plan documents path told = IsUnsaved path told

-- Why `build` was refused, by this plan: the stop file is refused, the collection file cannot be read or holds no
-- collection text, or the index text of what they hold cannot be built or saved.
pub data IsBuildRefused (holds : Holding) (stop_file : Option (Bor Text)) (plan : PlanValue) (path output : Text) : Refusal → Type 0 where
  no_output : {told : Refusal} → IsSameOrUnsaved output told → IsBuildRefused holds stop_file plan path output told
  no_input : {told : Refusal} → IsSameOrUnsaved path told → IsBuildRefused holds stop_file plan path output told
  no_stop_file : {told : Refusal} → IsSomeAnd stop_file (λ named. IsSameOrUnsaved named.now told) → IsBuildRefused holds stop_file plan path output told
  no_stop_list : {told : Refusal} → IsSomeAnd stop_file (λ named. RefusesStop holds named.now told) → IsBuildRefused holds stop_file plan path output told
  no_file : {told : Refusal} → IsUnread path told → IsBuildRefused holds stop_file plan path output told
  no_documents : {told : Refusal} (text : Text) (stop : List Text) → holds path text → IsStopHeld holds stop_file stop → RefusesDocuments text told → IsBuildRefused holds stop_file plan path output told
  unbuilt : {told : Refusal} (stop : List Text) (documents : List NamedText) → AreOfFiles holds stop_file path stop documents → IsUnbuilt plan documents output told → IsBuildRefused holds stop_file plan path output told
