-- Runs read back from a store.
use Rattle.std.specs.Prelude.{◌≡◌, ◌≢◌, ◌⊎◌, ℕ, ◌<◌, List, [], ◌++◌, length, Option, Some, IfSome, IsSome, slice_get}
use Rattle.std.specs.Io.KnownBytes.{Keeps}
use Rattle.ix_text.specs.Collections.{Collection}
use Rattle.ix_text.specs.Parts.{DictionaryEntry}
use Rattle.ix_run.specs.Faults.{MayFault}
use Rattle.ix_run.specs.Heads.{Heading, IsLawfulHeading, parts_with}
use Rattle.ix_run.specs.Reading.{HasRead, IsSure, MayYield}
use Rattle.ix_run.specs.RunReaders.{heading_read}
use Rattle.ix_run.specs.RunText.{IsRunText, heading_bytes, run_layout}
use Rattle.ix_run.specs.Sources.{IsUnread}
use Rattle.ix_run.specs.RunReader.{RunReader}
use Rattle.ix_run.specs.RunTextError.{RunTextError}
use Rattle.ix_run.specs.RunTextError.TheVariants as text
use Rattle.ix_run.specs.RunTextErrors.{IsRefusal as IsReadRefusal}
use Rattle.ix_merge.specs.Pieces.{WritesConcatenation, WritesYieldedPart}
use Rattle.ix_merge.specs.Refusals.{IsRefusal}
use Rattle.ix_merge.specs.declared.merge_error.MergeError.{MergeError}
use Rattle.ix_merge.specs.declared.merge_error.MergeError.TheVariants as merge
use Rattle.ix_build.specs.BuildErrors.{MayComeOfMerge}
use Rattle.ix_build.specs.declared.build_error.BuildError.{BuildError}
use Rattle.ix_build.specs.declared.build_error.BuildError.TheVariants.{Thread, Spill, Write, Memory}

-- what comes of reading places below the count back
abbrev pub ComesOfReading : ℕ → BuildError → Type 0
ComesOfReading count (Thread worker) = ⊥
ComesOfReading count (Spill place) = place < count
ComesOfReading count Write = ⊥
ComesOfReading count Memory = Unit {0}

-- what comes of reading and merging them
abbrev pub ComesOfMerging : ℕ → BuildError → Type 0
ComesOfMerging count (Thread worker) = ⊥
ComesOfMerging count (Spill place) = place < count
ComesOfMerging count Write = Unit {0}
ComesOfMerging count Memory = Unit {0}

-- a place that was not given back, or want of memory
abbrev pub told_of_reading : ℕ → RunTextError → BuildError
told_of_reading place text.Memory = Memory
told_of_reading place error = Spill place

-- an error of a merge of runs that were read back, as it is told
abbrev pub told_of_read_merge : MergeError RunTextError → BuildError
told_of_read_merge (merge.Gap number) = Memory
told_of_read_merge (merge.Overlap number) = Memory
told_of_read_merge merge.StopDiffers = Memory
told_of_read_merge (merge.Source place error) = told_of_reading place error
told_of_read_merge merge.TooLarge = Memory
told_of_read_merge merge.Write = Write
told_of_read_merge merge.Memory = Memory

-- Runs with these headings are not refused for what they are.
abbrev pub MayBeMerged : List Heading → Type 0
MayBeMerged headings = (error : MergeError RunTextError) → IsRefusal headings error → MayComeOfMerge error

-- The bytes are the run text of some collection.
pub record AreRunText (bytes : List ℕ) : Type 0 where
  pub first : ℕ
  pub collection : Collection
  pub is : IsRunText first collection bytes

-- no bytes may come back of a place below the count but a run text
abbrev pub GivesRunsBack : (ℕ → List ℕ → Type 0) → ℕ → Type 0
GivesRunsBack back count = (place : ℕ) (bytes : List ℕ) → place < count → back place bytes → AreRunText bytes

module _ {R : Type 0} (remaining : R → Option (List ℕ)) where
  -- The readers tell their bytes.
  abbrev pub TellBytes : Type 0
  TellBytes = (reader : R) → IsSome (remaining reader)

  -- Some bytes may have come of which the reader is: they spell the run that it may yield, and if they are the run text of a
  -- collection, it is sure to yield one.
  pub record IsOfBytes (may_come : List ℕ → Type 0) (reader : RunReader R) : Type 0 where
    pub bytes : List ℕ
    pub came : may_come bytes
    pub spelled : (entries : List DictionaryEntry) → MayYield remaining reader [] entries
        → bytes ≡ run_layout (heading_read reader).first (parts_with (heading_read reader) entries)
    pub sure : (first : ℕ) (collection : Collection) → IsRunText first collection bytes → IsSure remaining reader

  -- A reader of a run with this heading, of which nothing was asked yet.
  pub record IsReadBack (may_come : List ℕ → Type 0) (heading : Heading) (reader : RunReader R) : Type 0 where
    pub headed : heading_read reader ≡ heading
    pub unread : IsUnread HasRead reader
    pub told : TellBytes → IsOfBytes may_come reader

  -- One for each heading, in order.
  pub record AreReadBack (back : ℕ → List ℕ → Type 0) (headings : List Heading) (readers : List (RunReader R)) : Type 0 where
    pub as_many : length readers ≡ length headings
    pub each : (place : ℕ) (heading : Heading) (reader : RunReader R) → slice_get headings place ≡ Some heading → slice_get readers place ≡ Some reader
        → IsReadBack (back place) heading reader

  -- Since `before`, the index text went out of the concatenation of what such readers may yield.
  pub record WritesReadBack (back : ℕ → List ℕ → Type 0) (headings : List Heading) (before now : Option (List ℕ)) : Type 0 where
    pub readers : List (RunReader R)
    pub read : AreReadBack back headings readers
    pub written : WritesConcatenation (MayYield remaining) heading_read readers before now

  -- Since `before`, a prefix of such a text went out, and the whole of it only if `if_whole` holds.
  pub record WritesReadBackPart (back : ℕ → List ℕ → Type 0) (headings : List Heading) (before now : Option (List ℕ)) (if_whole : Type 0) : Type 0 where
    pub readers : List (RunReader R)
    pub read : AreReadBack back headings readers
    pub written : WritesYieldedPart (MayYield remaining) heading_read readers before now if_whole

  -- nothing went out, or such a prefix
  abbrev pub LeavesReadBackPart : (ℕ → List ℕ → Type 0) → List Heading → Option (List ℕ) → Option (List ℕ) → Type 0 → Type 0
  LeavesReadBackPart back headings before now if_whole = Keeps before now ⊎ WritesReadBackPart back headings before now if_whole

  -- A reader of what came back of the place, of which nothing was asked yet, may answer with an error that is told as its place.
  pub record MayNotRead (back : ℕ → List ℕ → Type 0) (place : ℕ) : Type 0 where
    pub reader : RunReader R
    pub unread : IsUnread HasRead reader
    pub told : TellBytes → IsOfBytes (back place) reader
    pub error : RunTextError
    pub may : MayFault remaining reader error
    pub spills : told_of_reading place error ≡ Spill place

  -- A reader of what came back of the place gave no run, by an error that is told as the place: if the head of a run stands first
  -- in its bytes, by a failed read.
  pub record GivesNoRun (back : ℕ → List ℕ → Type 0) (place : ℕ) : Type 0 where
    pub reader : R
    pub came : IfSome (remaining reader) (back place)
    pub error : RunTextError
    pub fault : (heading : Heading) (rest : List ℕ) → IsLawfulHeading heading → remaining reader ≡ Some (heading_bytes heading ++ rest) → IsReadRefusal error
    pub spills : told_of_reading place error ≡ Spill place

  -- What came back of the place begins as a run, with another heading than the one that was kept.
  pub record GivesOtherRun (kept : ℕ → Heading → Type 0) (back : ℕ → List ℕ → Type 0) (place : ℕ) : Type 0 where
    pub reader : RunReader R
    pub unread : IsUnread HasRead reader
    pub told : TellBytes → IsOfBytes (back place) reader
    pub heading : Heading
    pub is_kept : kept place heading
    pub other : heading_read reader ≢ heading

  -- Why the run of a place is not given back: the store has refused, or what came back is no run, or another.
  abbrev pub IsNotGivenBack : Type 0 → (ℕ → Heading → Type 0) → (ℕ → List ℕ → Type 0) → ℕ → Type 0
  IsNotGivenBack refused kept back place = refused ⊎ GivesNoRun back place ⊎ GivesOtherRun kept back place

  -- an error that tells a place is of one whose run is not given back
  abbrev pub TellsNotGivenBack : Type 0 → (ℕ → Heading → Type 0) → (ℕ → List ℕ → Type 0) → BuildError → Type 0
  TellsNotGivenBack refused kept back (Spill place) = IsNotGivenBack refused kept back place
  TellsNotGivenBack refused kept back _ = Unit {0}

  -- If a place is told, its run was not given back, before a byte was written, or what came back of it may not be read to its end.
  abbrev pub TellsCause : Type 0 → (ℕ → Heading → Type 0) → (ℕ → List ℕ → Type 0) → Option (List ℕ) → Option (List ℕ) → BuildError → Type 0
  TellsCause refused kept back before now (Spill place) = (Keeps before now × IsNotGivenBack refused kept back place) ⊎ MayNotRead back place
  TellsCause refused kept back before now _ = Unit {0}

  -- If a place is told, then before a byte was written, or what came back of it may not be read to its end.
  abbrev pub TellsUnread : (ℕ → List ℕ → Type 0) → Option (List ℕ) → Option (List ℕ) → BuildError → Type 0
  TellsUnread back before now (Spill place) = Keeps before now ⊎ MayNotRead back place
  TellsUnread back before now _ = Unit {0}
