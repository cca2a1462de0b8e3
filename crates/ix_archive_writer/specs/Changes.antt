-- What the calls make of an archive, and of its manifest.
use Rattle.std.specs.Prelude.{◌≡◌, ◌⊎◌, ◌↔◌, ◌≤◌, ◌<◌, ◌^◌, ℕ, ◌+◌, List, [], ◌∷◌, ◌++◌, Contains, Option, None, Some, length, map, slice_get}
use Rattle.std.specs.Borrow.{Bor}
use Rattle.std.specs.List.Sorted.{IsStrictlyIncreasing}
use Rattle.hex.specs.Hex.{IsBytes}
use Rattle.ix_files.specs.Slots.{Entry, Kept}
use Rattle.ix_text.specs.Collections.{Document, NamedText, collection_of}
use Rattle.ix_manifest.specs.ManifestText.{IsManifest, ManifestView}
use Rattle.ix_manifest.specs.declared.manifest.Removals.{Removals as RemovalsLine}
use Rattle.ix_manifest.specs.declared.manifest.Segment.{Segment}
use Rattle.ix_removals.specs.RemovalsText.{IsRemoved, Removal}
use Rattle.ix_archive.specs.Archives.{Archive, IsGone, joined}
use Rattle.ix_archive.specs.Layouts.{AreRemovalsIn, AreSegmentsOf, IsSegmentOf}

-- ---- archives

-- named texts as documents under a stop set
abbrev pub documents_under : List (List ℕ) → List NamedText → List Document
documents_under stop texts = (collection_of stop texts).documents

-- the archive with these documents behind its own
abbrev pub with_documents : Archive → List Document → Archive
with_documents archive documents =
    record { stop = archive.stop; documents = archive.documents ++ documents; removals = archive.removals }

-- the stop terms that are given, or none
abbrev pub stop_given : Option (Bor (List (List ℕ))) → List (List ℕ)
stop_given None = []
stop_given (Some stop) = stop.now

-- the archive that documents are added to: the one that is there, or one without documents under this stop set
abbrev pub archive_or : Option Archive → List (List ℕ) → Archive
archive_or None stop = record { stop = stop; documents = []; removals = [] }
archive_or (Some archive) stop = archive

-- the archive with these texts behind its own documents, under its own stop set; if there is none, under this one
abbrev pub after_adding : Option Archive → List (List ℕ) → List NamedText → Archive
after_adding now stop texts = with_documents (archive_or now stop) (documents_under (archive_or now stop).stop texts)

-- names as texts
abbrev pub texts_in : List (Bor (List ℕ)) → List (List ℕ)
texts_in names = map (λ name. name.now) names

-- the names of documents
abbrev pub names_in : List Document → List (List ℕ)
names_in documents = map (λ document. document.name) documents

-- The document of that number has one of these names.
pub record IsNamedAmong (names : List (List ℕ)) (archive : Archive) (number : ℕ) : Type 0 where
  pub document : Document
  pub numbered : slice_get archive.documents number ≡ Some document
  pub named : Contains names document.name

-- The archive after the removal of all documents of these names that were there: no other document is removed, also none that is
-- added later under one of these names.
pub record IsWithout (names : List (List ℕ)) (archive after : Archive) : Type 0 where
  pub stop : after.stop ≡ archive.stop
  pub documents : after.documents ≡ archive.documents
  pub gone : (number : ℕ) → IsGone after number ↔ (IsGone archive number ⊎ IsNamedAmong names archive number)
  pub later : (name : List ℕ) (number : ℕ) → length archive.documents ≤ number
      → IsRemoved after.removals name number ↔ IsRemoved archive.removals name number

-- the archive with other removals
abbrev pub with_removed : Archive → List Removal → Archive
with_removed archive removals = record { stop = archive.stop; documents = archive.documents; removals = removals }

-- So many documents have one of these names and are not removed.
pub record IsNewlyGone (names : List (List ℕ)) (archive : Archive) (count : ℕ) : Type 0 where
  pub numbers : List ℕ
  pub ascending : IsStrictlyIncreasing numbers
  pub exact : (number : ℕ) → Contains numbers number ↔ (IsNamedAmong names archive number × ¬ (IsGone archive number))
  pub counted : count ≡ length numbers

-- ---- manifests

-- the manifest with one segment more, of the next file
abbrev pub with_segment : ManifestView → Segment → ManifestView
with_segment view segment = record { next = view.next + 1; segments = view.segments ++ segment ∷ []; removals = view.removals }

-- the manifest with other removals, of the next file
abbrev pub with_removals : ManifestView → RemovalsLine → ManifestView
with_removals view line = record { next = view.next + 1; segments = view.segments; removals = Some line }

-- the manifest with one segment, of the next file, behind these
abbrev pub with_merged : ManifestView → List Segment → Segment → ManifestView
with_merged view kept segment = record { next = view.next + 1; segments = kept ++ segment ∷ []; removals = view.removals }

-- ---- segments

-- What a segment needs to be a lawful line.
pub record IsFit (segment : Segment) : Type 0 where
  pub few : segment.documents ≤ 2 ^ 28
  pub sized : segment.bytes < 2 ^ 64
  pub long : length segment.digest ≡ 32
  pub octets : IsBytes segment.digest

-- What removals need to be a lawful line.
pub record IsFitLine (line : RemovalsLine) : Type 0 where
  pub counted : line.count < 2 ^ 64
  pub sized : line.bytes < 2 ^ 64
  pub long : length line.digest ≡ 32
  pub octets : IsBytes line.digest

-- A new segment has this file and this many documents.
pub record IsNewSegment (file documents : ℕ) (segment : Segment) : Type 0 where
  pub numbered : segment.file ≡ file
  pub counted : segment.documents ≡ documents
  pub fit : IsFit segment

-- The file has the index text of these documents under the stop set, and the segment says so of it.
pub record IsWritten (stop : List (List ℕ)) (segment : Segment) (documents : List Document) (entry : Entry) : Type 0 where
  pub text : List ℕ
  pub kept : entry ≡ Kept text
  pub of_documents : IsSegmentOf stop segment text documents

-- ---- layouts

-- What a layout says but that there is a segment: the manifest of a new archive has none.
pub record IsLaid (archive : Archive) (view : ManifestView) (texts : List (List ℕ)) (removals_file : Option (List ℕ)) : Type 0 where
  pub lawful : IsManifest view
  pub lists : List (List Document)
  pub segments : AreSegmentsOf archive.stop view.segments texts lists
  pub documents : archive.documents ≡ joined lists
  pub removals : AreRemovalsIn (length archive.documents) archive.removals view.removals removals_file
