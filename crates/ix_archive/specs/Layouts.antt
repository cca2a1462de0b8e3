-- The files of an archive: its manifest, the index texts of its segments, and the file of its removals.
use Rattle.std.specs.Prelude.{◌≡◌, ◌≢◌, ℕ, ◌≤◌, ⊤, List, [], ◌∷◌, length, Option, None, Some, All}
use Rattle.sha2.specs.Sha256.{sha256}
use Rattle.ix_text.specs.Collections.{Document}
use Rattle.ix_index_text.specs.IndexText.{IsIndexText}
use Rattle.ix_index_text.specs.Sections.{Version}
use Rattle.ix_manifest.specs.ManifestText.{ManifestView, IsManifest}
use Rattle.ix_manifest.specs.declared.manifest.Removals.{Removals as RemovalsLine}
use Rattle.ix_manifest.specs.declared.manifest.Segment.{Segment}
use Rattle.ix_removals.specs.RemovalsText.{Removal, AreRemovals, removals_text}
use Rattle.ix_scan.specs.ScansWithout.{of_documents}
use Rattle.ix_archive.specs.Archives.{Archive, joined}

-- The text is the index text of these documents under the stop set, and the manifest says so of it.
pub record IsSegmentOf (stop : List (List ℕ)) (segment : Segment) (text : List ℕ) (documents : List Document) : Type 0 where
  pub version : Version
  pub indexed : IsIndexText version (of_documents stop documents) text
  pub counted : segment.documents ≡ length documents
  pub sized : segment.bytes ≡ length text
  pub digested : segment.digest ≡ sha256 text

-- The texts are those of the segments, one each, and the documents too.
abbrev pub AreSegmentsOf : List (List ℕ) → List Segment → List (List ℕ) → List (List Document) → Type 0
AreSegmentsOf stop [] [] [] = ⊤
AreSegmentsOf stop (segment ∷ segments) (text ∷ texts) (documents ∷ lists) =
    IsSegmentOf stop segment text documents × AreSegmentsOf stop segments texts lists
AreSegmentsOf stop _ _ _ = ⊥

-- The text is that of the removals, and the manifest says so of it.
pub record IsRemovalsText (removals : List Removal) (line : RemovalsLine) (text : List ℕ) : Type 0 where
  pub listed : AreRemovals removals
  pub written : text ≡ removals_text removals
  pub counted : line.count ≡ length removals
  pub sized : line.bytes ≡ length text
  pub digested : line.digest ≡ sha256 text

-- The text is that of the removals, none of which takes a document behind this many, and the manifest says so of it.
pub record IsRemovalsFile (documents : ℕ) (removals : List Removal) (line : RemovalsLine) (text : List ℕ) : Type 0 where
  pub listed : AreRemovals removals
  pub written : text ≡ removals_text removals
  pub counted : line.count ≡ length removals
  pub sized : line.bytes ≡ length text
  pub digested : line.digest ≡ sha256 text
  pub earlier : All (λ removal. removal.below ≤ documents) removals

-- There is a file of removals, and it is that of these; or there is none, and nothing is removed.
abbrev pub AreRemovalsIn : ℕ → List Removal → Option RemovalsLine → Option (List ℕ) → Type 0
AreRemovalsIn documents removals None None = removals ≡ []
AreRemovalsIn documents removals (Some line) (Some text) = IsRemovalsFile documents removals line text
AreRemovalsIn documents removals _ _ = ⊥

-- The manifest, the texts of its segments, in their order, and that of its removals are those of the archive. An archive has
-- at least one segment, which keeps the stop set.
pub record IsLaidOut (archive : Archive) (view : ManifestView) (texts : List (List ℕ)) (removals_file : Option (List ℕ)) : Type 0 where
  pub lawful : IsManifest view
  pub has_segment : view.segments ≢ []
  pub lists : List (List Document)
  pub segments : AreSegmentsOf archive.stop view.segments texts lists
  pub documents : archive.documents ≡ joined lists
  pub removals : AreRemovalsIn (length archive.documents) archive.removals view.removals removals_file
