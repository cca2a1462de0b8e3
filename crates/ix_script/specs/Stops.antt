-- Why steps of a script failed, and what is left then.
use Rattle.std.specs.Prelude.{◌≡◌, ℕ, ◌⊎◌, ◌^◌, ◌<◌, ◌≤◌, List, ◌∷◌, ◌++◌, length, map, take, Option, Result, Ok, Err}
use Rattle.std.specs.Io.KnownBytes.{Keeps}
use Rattle.ix_files.specs.declared.file_error.FileError.{FileError}
use Rattle.ix_files.specs.declared.file_error.FileError.TheVariants as file
use Rattle.ix_text.specs.CollectionFaults.{IsCollectionFault}
use Rattle.ix_text.specs.Collections.{NamedText}
use Rattle.ix_output.specs.Sinks.{AppendsFront}
use Rattle.ix_text.specs.declared.collection.CollectionError.TheVariants as collection
use Rattle.ix_live.specs.Growing.{documents_under}
use Rattle.ix_live.specs.Histories.{Known}
use Rattle.ix_live.specs.Indexers.{IndexerValue}
use Rattle.ix_live.specs.LiveErrors.{RefusesAddition, RefusesRemoval}
use Rattle.ix_live.specs.Segments.{joined}
use Rattle.ix_script.specs.Runs.{Changes, HoldsDocuments, Progress, documents_in}
use Rattle.ix_script.specs.PrintedAnswers.{asked_in}
use Rattle.ix_script.specs.Steps.{Add, Ask, Publish, Remove, Step, Text, step_of}
use Rattle.ix_script.specs.declared.change.Stopped.{Stopped}
use Rattle.ix_script.specs.declared.step.Step.{Step as StepTaken}
use Rattle.ix_script.specs.declared.run_error.RunError.{RunError}
use Rattle.ix_script.specs.declared.run_error.RunError.TheVariants.{Collection, Live, Memory, Unread, Write}

-- how far the live index of an indexer has come
abbrev pub progress_of : IndexerValue → Progress
progress_of indexer = record { published = joined indexer.published; pending = indexer.pending }

-- the team answers after all that is published
abbrev pub IsTeamOf : IndexerValue → Known → Type 0
IsTeamOf indexer team = (team.stop ≡ indexer.stop) × (team.history.publishes ≡ indexer.published)

-- the indexer is of the same live index, in which what is published is as it was
abbrev pub KeepsPublished : IndexerValue → IndexerValue → Type 0
KeepsPublished before after = (after.stop ≡ before.stop) × (after.book ≡ before.book) × (after.published ≡ before.published)

-- ---- why a step failed

-- why there are no bytes of a file of this path: it cannot be read, it has more bytes than a collection text may have, or the call was
-- out of memory
abbrev pub IsUnread : (Text → Type 0) → Text → RunError → Type 0
IsUnread Holds path (Unread named) = named.now ≡ path
IsUnread Holds path (Collection error) = (error ≡ collection.TooLarge) × (text : Text) × Holds text × (2 ^ 28 < length text)
IsUnread Holds path Memory = Unit {0}
IsUnread Holds path _ = ⊥

-- the error of reading the file of this path: out of memory, or the file cannot be read
abbrev pub IsReadError : FileError → Text → RunError → Type 0
IsReadError file.Memory path error = error ≡ Memory
IsReadError _ path (Unread named) = named.now ≡ path
IsReadError _ path _ = ⊥

-- why there are no documents of a text: it is no collection text, or the call was out of memory
abbrev pub IsNoCollection : Text → RunError → Type 0
IsNoCollection text (Collection error) = (error ≡ collection.Memory) ⊎ IsCollectionFault text error
IsNoCollection text _ = ⊥

-- Why the documents of a file were not added by this many workers: it cannot be read, or holds no collection text, or a live
-- index that has come so far does not take its documents.
abbrev pub RefusesFile : (Text → Text → Type 0) → ℕ → List Text → Text → Progress → RunError → Type 0
RefusesFile holds workers stop path before (Unread named) = named.now ≡ path
RefusesFile holds workers stop path before (Collection error) = (text : Text) × holds path text × ((error ≡ collection.Memory) ⊎ IsCollectionFault text error)
RefusesFile holds workers stop path before (Live error) =
    (documents : List NamedText) × HoldsDocuments holds path documents × RefusesAddition workers (before.published ++ before.pending) (documents_under stop documents) error
RefusesFile holds workers stop path before Write = ⊥
RefusesFile holds workers stop path before Memory = Unit {0}

-- why a document was not removed
abbrev pub RefusesNumber : ℕ → Progress → RunError → Type 0
RefusesNumber number before (Live error) = RefusesRemoval (length (documents_in before)) number error
RefusesNumber number before _ = ⊥

-- why an addition to a live index that has come so far, or a removal from it, failed
abbrev pub RefusesStep : (Text → Text → Type 0) → ℕ → List Text → Step → Progress → RunError → Type 0
RefusesStep holds workers stop (Add path) before error = RefusesFile holds workers stop path before error
RefusesStep holds workers stop Publish before error = ⊥
RefusesStep holds workers stop (Ask query tree) before error = ⊥
RefusesStep holds workers stop (Remove number) before error = RefusesNumber number before error

-- One of these steps failed, once all additions and removals before it were carried out.
pub record RefusesChanges (holds : Text → Text → Type 0) (workers : ℕ) (stop : List Text) (steps : List Step) (before : Progress) (error : RunError) : Type 0 where
  pub earlier : List Step
  pub step : Step
  pub later : List Step
  pub now : Progress
  pub cut : steps ≡ earlier ++ step ∷ later
  pub changed : Changes holds stop earlier before now
  pub refused : RefusesStep holds workers stop step now error

-- why a group failed: the first addition or removal that did, or memory
abbrev pub RefusesGroup : (Text → Text → Type 0) → ℕ → List Text → List Step → Progress → RunError → Type 0
RefusesGroup holds workers stop steps before error = (error ≡ Memory) ⊎ RefusesChanges holds workers stop steps before error

-- The error is that of the first step of a group that failed, of asks that were out of memory at the query of this place among
-- them, and additions and removals that failed at the step of this place.
abbrev pub IsFirstError : {A : Type 0} → List StepTaken → Result A ℕ → Result (Unit {0}) Stopped → RunError → Type 0
IsFirstError steps (Ok answers) (Ok done) error = ⊥
IsFirstError steps (Err query) (Ok done) error = error ≡ Memory
IsFirstError steps (Ok answers) (Err stopped) error = error ≡ stopped.error
IsFirstError steps (Err query) (Err stopped) error =
    let asked = length (asked_in (map step_of (take stopped.place steps))) in
    ((query < asked) × (error ≡ Memory)) ⊎ ((asked ≤ query) × (error ≡ stopped.error))

-- ---- what is left

-- why the lines of a group were not printed: the output failed, and gained a prefix; or the call was out of memory, and
-- it gained none
abbrev pub IsUnprinted : Text → Option Text → Option Text → RunError → Type 0
IsUnprinted lines old new Write = AppendsFront old new lines
IsUnprinted lines old new Memory = Keeps old new
IsUnprinted lines old new _ = ⊥
