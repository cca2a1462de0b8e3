-- The merging of sources' terms: what it needs of the sources and of the writer, and what it tells.
use Rattle.std.specs.Prelude.{◌≡◌, ℕ, ◌<◌, ◌≤◌, List, [], length, slice_index_or, Option, ⊤}
use Rattle.ix_file.specs.Telling.{IsClosable}
use Rattle.ix_file.specs.Told.{Told, entries_of}
use Rattle.ix_file.specs.Writers.{WasTold}
use Rattle.ix_file.specs.WriterSections.{WriterSections}
use Rattle.ix_file.specs.IndexWriter.{IndexWriter}
use Rattle.ix_run.specs.Heads.{Heading}
use Rattle.ix_run.specs.ListError.{ListError}
use Rattle.ix_run.specs.ListError.TheVariants as list
use Rattle.ix_run.specs.Sources.{Faulting, Yielding}
use Rattle.ix_merge.specs.Covers.{times_covered}
use Rattle.ix_merge.specs.Merged.{HasMergedAll}
use Rattle.ix_merge.specs.Refusals.{MayFaultAt}
use Rattle.ix_merge.specs.declared.merge_error.MergeError.{MergeError}
use Rattle.ix_merge.specs.declared.merge_error.MergeError.TheVariants.{Source, Write, Memory}

-- no number is covered twice
abbrev pub AreApart : List Heading → Type 0
AreApart headings = (number : ℕ) → times_covered headings number ≤ 1

-- The writer has returned no error, and was given no term.
pub record WasToldNoTerm {W : Type 0} (contents : W → Option (List ℕ)) (writer : IndexWriter W WriterSections) : Type 0 where
  pub before : Option (List ℕ)
  pub told : Told
  pub was : WasTold contents before writer told
  pub no_term : entries_of told ≡ []

-- The writer was given all that the sources yield, after what it was given before.
pub record TellsAll {S W : Type 0} (yields : Yielding S) (heading : S → Heading) (contents : W → Option (List ℕ))
    (sources : List S) (before : Option (List ℕ)) (told : Told) (writer : IndexWriter W WriterSections) : Type 0 where
  pub now : Told
  pub was : WasTold contents before writer now
  pub stop : now.stop ≡ told.stop
  pub rows : now.rows ≡ told.rows
  pub closable : IsClosable now
  pub all : HasMergedAll yields heading sources (entries_of now)

-- If it names a source, the one at this place, with an error of these; or a write failed, or out of memory.
abbrev pub IsRefusalAt : {E : Type 0} → ℕ → (E → Type 0) → MergeError E → Type 0
IsRefusalAt place may (Source told error) = (told ≡ place) × may error
IsRefusalAt place may Write = ⊤
IsRefusalAt place may Memory = ⊤
IsRefusalAt place may _ = ⊥

-- If it names a source, then by its place, with an error that this may return; or a write failed, or out of memory.
abbrev pub IsRefusalOf : {S E : Type 0} → Faulting S E → List S → MergeError E → Type 0
IsRefusalOf faults sources (Source place error) = MayFaultAt faults sources place error
IsRefusalOf faults sources Write = ⊤
IsRefusalOf faults sources Memory = ⊤
IsRefusalOf faults sources _ = ⊥

-- a write failed, or out of memory
abbrev pub IsOfWriter : {E : Type 0} → MergeError E → Type 0
IsOfWriter Write = ⊤
IsOfWriter Memory = ⊤
IsOfWriter _ = ⊥

-- what the error of a list becomes, of the source at this place
abbrev pub told_of_list : {E : Type 0} → ℕ → ListError E → MergeError E
told_of_list place list.Memory = Memory
told_of_list place (list.Source error) = Source place error

-- No source may return an error that it might not have returned before.
abbrev pub KeepFaults : {S E : Type 0} → Faulting S E → List S → List S → Type 0
KeepFaults {S} {E} faults old now = (place : ℕ) (source : S) (error : E) → place < length now
    → faults (slice_index_or now place source) error → faults (slice_index_or old place source) error
