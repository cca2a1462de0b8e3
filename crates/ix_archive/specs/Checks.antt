-- What a check of an archive finds.
use Rattle.std.specs.Prelude.{◌≡◌, ◌≢◌, ◌↔◌, ℕ, ⊤, List, [], ◌∷◌, ◌++◌, length, map, All, Contains, IfSome, Option, Some, option_to_list, sum_by}
use Rattle.std.specs.List.Sorted.{IsStrictlyIncreasing}
use Rattle.ix_text.specs.Collections.{Document}
use Rattle.ix_file.specs.Opened.{Opened as Index, names_of}
use Rattle.ix_manifest.specs.ManifestText.{ManifestView, view_of}
use Rattle.ix_manifest.specs.declared.manifest.Segment.{Segment}
use Rattle.ix_removals.specs.RemovalsText.{Removal}
use Rattle.ix_ask.specs.NameLines.{names_indexed}
use Rattle.ix_archive.specs.Archives.{Archive, IsGone}
use Rattle.ix_archive.specs.Findings.{IsGoneFrom}
use Rattle.ix_archive.specs.Layouts.{IsLaidOut, IsSegmentOf}
use Rattle.ix_archive.specs.declared.archive_error.ArchiveError.{ArchiveError}
use Rattle.ix_archive.specs.declared.archive_error.ArchiveError.TheVariants as fault
use Rattle.ix_archive.specs.declared.checked.Checked.{Checked}
use Rattle.ix_archive.specs.declared.checked.Checked.TheVariants.{Faulty, Sound}
use Rattle.ix_archive.specs.declared.checked.Counts.{Counts}
use Rattle.ix_archive.specs.declared.opened.Opened.{Opened}
use Rattle.ix_archive.specs.declared.read_error.ReadError.{ReadError}
use Rattle.ix_archive.specs.declared.read_error.ReadError.TheVariants as reading

-- Just so many numbers have the property.
pub record AreCounted (P : ℕ → Type 0) (count : ℕ) : Type 0 where
  pub numbers : List ℕ
  pub ascending : IsStrictlyIncreasing numbers
  pub exact : (number : ℕ) → Contains numbers number ↔ P number
  pub counted : count ≡ length numbers

-- ---- the archive

-- One text was read of each source. If the bytes of a source are known, they are its text.
abbrev pub AreRead : {S : Type 0} → (S → Option (List ℕ)) → List S → List (List ℕ) → Type 0
AreRead contents [] [] = ⊤
AreRead contents (source ∷ sources) (text ∷ texts) =
    ((known : List ℕ) → contents source ≡ Some known → text ≡ known) × AreRead contents sources texts
AreRead contents _ _ = ⊥

-- With the manifest and the removals that are open, these texts of segments are those of the archive.
pub record AreTextsOf {S : Type 0} (archive : Archive) (opened : Opened S) (texts : List (List ℕ)) : Type 0 where
  pub removals_file : Option (List ℕ)
  pub laid : IsLaidOut archive (view_of opened.manifest) texts removals_file
  pub removals : opened.removals ≡ archive.removals

-- The archive has so many documents, of which so many are removed, and so many segments of so many bytes.
pub record AreCountsOf (archive : Archive) (view : ManifestView) (counts : Counts) : Type 0 where
  pub documents : counts.documents ≡ length archive.documents
  pub removed : AreCounted (IsGone archive) counts.removed
  pub segments : counts.segments ≡ length view.segments
  pub bytes : counts.bytes ≡ sum_by (λ segment. segment.bytes) view.segments

-- The texts are those of an archive, with these counts.
pub record AreSound {S : Type 0} (opened : Opened S) (texts : List (List ℕ)) (counts : Counts) : Type 0 where
  pub archive : Archive
  pub of : AreTextsOf archive opened texts
  pub counted : AreCountsOf archive (view_of opened.manifest) counts

-- the numbers of the files that a manifest names
abbrev pub files_of : ManifestView → List ℕ
files_of view = map (λ segment. segment.file) view.segments ++ map (λ line. line.file) (option_to_list view.removals)

-- The error is a fault of such a file.
abbrev pub IsFaultOf : (ℕ → Type 0) → ArchiveError → Type 0
IsFaultOf Is (fault.Segment file error) = Is file
IsFaultOf Is (fault.Differs file) = Is file
IsFaultOf Is _ = ⊥

-- The texts are those of no archive. Each fault is that of a file that the manifest names.
pub record AreFaulty {S : Type 0} (opened : Opened S) (texts : List (List ℕ)) (faults : List ArchiveError) : Type 0 where
  pub some : faults ≢ []
  pub each : All (IsFaultOf (Contains (files_of (view_of opened.manifest)))) faults
  pub of_none : (archive : Archive) → ¬ (AreTextsOf archive opened texts)

abbrev pub IsFound : {S : Type 0} → Opened S → List (List ℕ) → Checked → Type 0
IsFound opened texts (Sound counts) = AreSound opened texts counts
IsFound opened texts (Faulty faults) = AreFaulty opened texts faults.items

-- This was found of the texts that were read.
pub record IsChecked {S : Type 0} (contents : S → Option (List ℕ)) (opened : Opened S) (checked : Checked) : Type 0 where
  pub texts : List (List ℕ)
  pub read : AreRead contents opened.sources.items texts
  pub found : IsFound opened texts checked

-- ---- one segment

-- The index is that of the text, which is as the manifest says.
pub record IsVolumeOf (segment : Segment) (text : List ℕ) (volume : Index) : Type 0 where
  pub documents : List Document
  pub of : IsSegmentOf volume.parts.stop segment text documents
  pub named : names_of volume.parts.rows ≡ names_indexed documents
  pub only : (stop : List (List ℕ)) (others : List Document) → IsSegmentOf stop segment text others → volume.parts.stop ≡ stop

-- The text is that of the segment. Its stop terms are those that are given, if some are, and `removed` of its documents, which
-- count from a first number on, are removed.
pub record IsPassed (given : Option (List (List ℕ))) (segment : Segment) (text : List ℕ) (removals : List Removal) (first : ℕ) (stop : List (List ℕ)) (removed : ℕ) : Type 0 where
  pub documents : List Document
  pub of : IsSegmentOf stop segment text documents
  pub same : IfSome given (λ terms. terms ≡ stop)
  pub only : (other : List (List ℕ)) (others : List Document) → IsSegmentOf other segment text others → stop ≡ other
  pub counted : AreCounted (IsGoneFrom removals first (names_indexed documents)) removed

-- The text is not that of the segment under the stop terms that are given, if some are.
abbrev pub IsTextOfNone : Option (List (List ℕ)) → Segment → List ℕ → Type 0
IsTextOfNone given segment text =
    (stop : List (List ℕ)) (documents : List Document) → IfSome given (λ terms. terms ≡ stop) → ¬ (IsSegmentOf stop segment text documents)

-- Why a text is not taken as that of the segment: out of memory, or a fault of its file.
abbrev pub RefusesText : Option (List (List ℕ)) → Segment → List ℕ → ReadError → Type 0
RefusesText given segment text reading.Memory = ⊤
RefusesText given segment text (reading.Archive error) = IsFaultOf (λ file. file ≡ segment.file) error × IsTextOfNone given segment text
RefusesText given segment text _ = ⊥
