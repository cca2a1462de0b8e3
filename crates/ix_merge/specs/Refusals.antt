-- When sources are not merged, by their headings alone.
use Rattle.std.specs.Prelude.{◌≡◌, ◌≢◌, ℕ, ◌^◌, ◌<◌, ◌≤◌, ◌⊎◌, List, length, slice_get, Some, Contains, Result, Err}
use Rattle.ix_run.specs.Heads.{Heading}
use Rattle.ix_run.specs.Sources.{Faulting}
use Rattle.ix_merge.specs.Covers.{Cover, IsGap, IsOverlap}
use Rattle.ix_merge.specs.Rows.{tokens_under}
use Rattle.ix_merge.specs.declared.merge_error.MergeError.{MergeError}
use Rattle.ix_merge.specs.declared.merge_error.MergeError.TheVariants.{Gap, Overlap, StopDiffers, Source, TooLarge, Write, Memory}

-- all have the same stop terms
abbrev pub HaveOneStop : List Heading → Type 0
HaveOneStop headings = (one other : Heading) → Contains headings one → Contains headings other → one.stop ≡ other.stop

-- two have different stop terms
pub record HaveTwoStops (headings : List Heading) : Type 0 where
  pub one : Heading
  pub other : Heading
  pub among : Contains headings one
  pub among_too : Contains headings other
  pub differ : one.stop ≢ other.stop

-- Each number is covered once, and two sources have different stop terms.
pub record DifferInStop (headings : List Heading) : Type 0 where
  pub count : ℕ
  pub cover : Cover headings count
  pub stops : HaveTwoStops headings

-- Each number is covered once, and all have the same stop terms.
pub record AreCompatible (headings : List Heading) : Type 0 where
  pub count : ℕ
  pub cover : Cover headings count
  pub stop : HaveOneStop headings

-- Sources with these headings have a concatenation, but one of too many tokens.
pub record AreTooLarge (headings : List Heading) : Type 0 where
  pub compatible : AreCompatible headings
  pub many : 2 ^ 28 < tokens_under headings

-- Sources with these headings have a concatenation that an index can hold.
pub record AreMergeable (headings : List Heading) : Type 0 where
  pub compatible : AreCompatible headings
  pub few : tokens_under headings ≤ 2 ^ 28

-- A merge of sources with these headings fails for this reason: `Gap`, `Overlap`, `StopDiffers` and `TooLarge` say what is
-- wrong with the headings, and the others come if nothing is, but `Memory` at any time. A source is named by its place.
abbrev pub IsRefusal : {E : Type 0} → List Heading → MergeError E → Type 0
IsRefusal headings (Gap number) = IsGap headings number
IsRefusal headings (Overlap number) = IsOverlap headings number
IsRefusal headings StopDiffers = DifferInStop headings
IsRefusal headings (Source place error) = AreMergeable headings × (place < length headings)
IsRefusal headings TooLarge = AreTooLarge headings
IsRefusal headings Write = AreMergeable headings
IsRefusal headings Memory = Unit {0}

-- The source at this place may return this error.
pub record MayFaultAt {S E : Type 0} (faults : Faulting S E) (sources : List S) (place : ℕ) (error : E) : Type 0 where
  pub source : S
  pub is : slice_get sources place ≡ Some source
  pub may : faults source error

-- If the error names a source by its place, then with an error that this source may return.
abbrev pub TellsFault : {S E : Type 0} → Faulting S E → List S → MergeError E → Type 0
TellsFault faults sources (Source place error) = MayFaultAt faults sources place error
TellsFault faults sources _ = Unit {0}

-- the errors that come before a byte is written
abbrev pub IsEarly : {E : Type 0} → MergeError E → Type 0
IsEarly (Gap number) = Unit {0}
IsEarly (Overlap number) = Unit {0}
IsEarly StopDiffers = Unit {0}
IsEarly (Source place error) = ⊥
IsEarly TooLarge = Unit {0}
IsEarly Write = ⊥
IsEarly Memory = ⊥

-- the error is this one, or out of memory
abbrev pub IsOrMemory : {T E : Type 0} → Result T (MergeError E) → MergeError E → Type 0
IsOrMemory result error = (result ≡ Err error) ⊎ (result ≡ Err Memory)
