-- What was read of a collection file against all of it, for the index that is built of it.
use Rattle.std.proofs.Common.{◌≡◌, ℕ, List, None, Some, Result, Ok, Err, ◌⊎◌, inl, inr, OnOk, IfErr, take, IsSomeAnd, subst, sym}
use Rattle.std.specs.Prelude.{Option}
use Rattle.std.specs.Borrow.{Bor}
use Rattle.ix_text.specs.Collections.{NamedText, collection_of}
use Rattle.ix_text.specs.CollectionText.{IsCollectionText}
use Rattle.ix_command.specs.AskedFiles.{IsStopHeld}
use Rattle.ix_build.specs.BuildErrors.{IsInvertRefusal, IsMergeRefusal}
use Rattle.ix_build.specs.GivenBack.{GivesBlocksBack}
use Rattle.ix_build.specs.Plans.{PlanValue}
use Rattle.ix_files.specs.Reading.{Holding, IsFront}
use Rattle.ix_files.specs.Views.{View}
use Rattle.ix_build.specs.declared.build_error.BuildError.{BuildError}
use Rattle.ix_build.specs.declared.build_error.BuildError.TheVariants.{Thread, Spill, Write, Memory}
use Rattle.ix_command.specs.BuiltIndexes.{AreOfFiles, ComeBack, IsBuilt, IsBuildRefused, IsRefusalBy, IsUnbuilt, RefusesDocuments, of_folder, of_memory, unbuilt}
use Rattle.ix_command.specs.BuiltRuns.{IsOfRuns}
use Rattle.ix_command.specs.Files.{Keeping}
use Rattle.ix_command.specs.Refusals.{IsSameOrUnsaved, IsUnsaved}
use Rattle.ix_ask.specs.declared.refusal.EngineRefusal.TheVariants as engine
use Rattle.ix_command.specs.declared.refusal.Refusal.{Refusal}
use Rattle.ix_command.specs.declared.refusal.Refusal.TheVariants as refusal
use Rattle.ix_command.specs.SavedIndexes.{SavesAlike, SavesIndex}
use Rattle.ix_command.proofs.FileLemmas.{read_whole, refuses_collection_whole, room}
use Rattle.ix_command.proofs.Saving.{saved_alike}

-- the documents of what was read are those of the whole file
pub documents_of_files : (holds : Holding) (stop_file : Option (Bor (List ℕ))) (path bytes : List ℕ) (stop : List (List ℕ)) (documents : List NamedText)
    → IsFront (holds path) room bytes → IsStopHeld holds stop_file stop → IsCollectionText bytes documents → AreOfFiles holds stop_file path stop documents
documents_of_files holds stop_file path bytes stop documents front stop_held read = record {
  text = front.whole;
  held = front.held;
  stop_held = stop_held;
  read = subst (λ text. IsCollectionText text documents) (read_whole bytes front.whole front.cut read.size) read;
}

-- and so is the reason why there are none
pub refuses_documents_whole : (bytes whole : List ℕ) (told : Refusal) → bytes ≡ take room whole → RefusesDocuments bytes told → RefusesDocuments whole told
refuses_documents_whole bytes whole (refusal.Engine (engine.Collection error)) cut why = refuses_collection_whole bytes whole error cut why
refuses_documents_whole bytes whole _ cut why = absurd why

-- what is not saved is not built
pub unbuilt_unsaved : (plan : PlanValue) (documents : List NamedText) (path : List ℕ) (told : Refusal) → IsUnsaved path told → IsUnbuilt plan documents path told
unbuilt_unsaved plan documents path (refusal.Engine (engine.Build error)) is = absurd is
unbuilt_unsaved plan documents path (refusal.Locked folder) is = absurd is
unbuilt_unsaved plan documents path told is = is

-- what cannot be an output is one that is read, or cannot be saved
pub same_or_unsaved : (path : List ℕ) (told : Refusal) → IsUnsaved path told → IsSameOrUnsaved path told
same_or_unsaved path (refusal.Same named) is = absurd is
same_or_unsaved path told is = is

-- a stop file that is read and written, or cannot be looked at, was named
pub some_refused : (named : Option (Bor (List ℕ))) (path : Bor (List ℕ)) (told : Refusal) → named ≡ Some path → IsSameOrUnsaved path.now told → IsSomeAnd named (λ file. IsSameOrUnsaved file.now told)
some_refused named path told is refused = subst (λ (o : Option (Bor (List ℕ))). IsSomeAnd o (λ file. IsSameOrUnsaved file.now told)) (sym is) refused

-- what is so of runs in memory, and of runs in a folder that come back, is so of runs that come back
pub come_back : (P : Type 0) (kept : Keeping) (plan : PlanValue) (stop : List (List ℕ)) (documents : List NamedText) → (plan.folder ≡ None → P)
    → ((folder : List ℕ) → plan.folder ≡ Some folder → kept.told → GivesBlocksBack plan.cut documents stop kept.back → P)
    → ComeBack kept plan stop documents → P
come_back P kept plan stop documents memory files (of_memory none) = memory none
come_back P kept plan stop documents memory files (of_folder folder named told back) = files folder named told back

-- what is refused to runs in memory is so by any plan
pub inverting_refused : (plan : PlanValue) (documents : List NamedText) (error : BuildError) → IsInvertRefusal plan.workers error → IsRefusalBy plan documents error
inverting_refused plan documents (Thread worker) is = record { any = is; of_memory = λ _. is }
inverting_refused plan documents (Spill place) is = absurd is
inverting_refused plan documents Write is = absurd is
inverting_refused plan documents Memory is = record { any = tt; of_memory = λ _. tt }

pub merging_refused : (plan : PlanValue) (documents : List NamedText) (error : BuildError) → IsMergeRefusal error → IsRefusalBy plan documents error
merging_refused plan documents (Thread worker) is = absurd is
merging_refused plan documents (Spill place) is = absurd is
merging_refused plan documents Write is = record { any = tt; of_memory = λ _. tt }
merging_refused plan documents Memory is = record { any = tt; of_memory = λ _. tt }

-- ---- by the documents of the files

module _ {T : Type 0} (holds saves : Holding) (kept : Keeping) (stop_file : Option (Bor (List ℕ))) (plan : PlanValue) (path output : List ℕ) (stop : List (List ℕ)) (documents : List NamedText)
    (of_files : AreOfFiles holds stop_file path stop documents) where
  pub built_by_runs : (result : Result T Refusal) → OnOk result (ComeBack kept plan stop documents → SavesIndex saves output (collection_of stop documents))
      → OnOk result (SavesAlike saves output (collection_of stop documents)) → OnOk result (IsBuilt holds saves kept stop_file plan path output)
  built_by_runs (Ok x) saved alike = record { stop = stop; documents = documents; of_files = of_files; saved = saved; alike = alike }
  built_by_runs (Err told) saved alike = tt

  pub built_in_memory : (result : Result T Refusal) → OnOk result (SavesIndex saves output (collection_of stop documents)) → OnOk result (IsBuilt holds saves kept stop_file plan path output)
  built_in_memory (Ok x) saved = record { stop = stop; documents = documents; of_files = of_files; saved = λ _. saved; alike = saved_alike saves output (collection_of stop documents) saved }
  built_in_memory (Err told) saved = tt

pub unbuilt_by : {T : Type 0} (holds : Holding) (stop_file : Option (Bor (List ℕ))) (plan : PlanValue) (path output : List ℕ) (stop : List (List ℕ)) (documents : List NamedText)
    → AreOfFiles holds stop_file path stop documents → (result : Result T Refusal) → IfErr result (IsUnbuilt plan documents output) → IfErr result (IsBuildRefused holds stop_file plan path output)
unbuilt_by holds stop_file plan path output stop documents of_files (Ok x) why = tt
unbuilt_by holds stop_file plan path output stop documents of_files (Err told) why = unbuilt stop documents of_files why

-- a path of a run, or a folder that cannot be looked at
pub of_runs_unbuilt : (view : View) (plan : PlanValue) (documents : List NamedText) (path output : List ℕ) (told : Refusal) → IsOfRuns view plan documents path told
    → IsSameOrUnsaved path told ⊎ IsUnbuilt plan documents output told
of_runs_unbuilt view plan documents path output (refusal.Same named) is = inl is.0
of_runs_unbuilt view plan documents path output (refusal.Engine (engine.Build error)) is = inr is
of_runs_unbuilt view plan documents path output _ is = absurd is
