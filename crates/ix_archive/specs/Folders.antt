-- Which archive is in a folder, and what a stop leaves of it.
use Rattle.std.specs.Prelude.{◌≡◌, ℕ, List, [], ◌∷◌, ◌++◌, Option, None, Some, codes, decimal}
use Rattle.ix_files.specs.Slots.{Nothing, Place, Slots}
use Rattle.ix_folder.specs.FolderNames.{manifest_place}
use Rattle.ix_folder.specs.Standings.{AreStops, NamedFile, Standing, Stands}
use Rattle.ix_manifest.specs.ManifestText.{ManifestView, manifest_text}
use Rattle.ix_manifest.specs.declared.manifest.Removals.{Removals as RemovalsLine}
use Rattle.ix_manifest.specs.declared.manifest.Segment.{Segment}
use Rattle.ix_archive.specs.Archives.{Archive}
use Rattle.ix_archive.specs.Layouts.{IsLaidOut}

-- the file of a segment
abbrev pub segment_place : List ℕ → ℕ → Place
segment_place folder number = record { folder = folder; name = codes "segment-" ++ decimal number }

-- the file of the removals
abbrev pub removals_place : List ℕ → ℕ → Place
removals_place folder number = record { folder = folder; name = codes "removals-" ++ decimal number }

-- the files of segments, with these texts
abbrev pub segment_files : List ℕ → List Segment → List (List ℕ) → List NamedFile
segment_files folder (segment ∷ segments) (text ∷ texts) =
    record { place = segment_place folder segment.file; bytes = text } ∷ segment_files folder segments texts
segment_files folder _ _ = []

-- the file of the removals, if there is one, with this text
abbrev pub removals_files : List ℕ → Option RemovalsLine → Option (List ℕ) → List NamedFile
removals_files folder (Some line) (Some text) = record { place = removals_place folder line.file; bytes = text } ∷ []
removals_files folder _ _ = []

-- a manifest and the files that it names
abbrev pub standing_of : List ℕ → ManifestView → List (List ℕ) → Option (List ℕ) → Standing
standing_of folder view texts removals_file = record {
  manifest = manifest_text view;
  files = segment_files folder view.segments texts ++ removals_files folder view.removals removals_file;
}

-- The archive is in the folder.
pub record IsArchiveIn (folder : List ℕ) (archive : Archive) (slots : Slots) : Type 0 where
  pub view : ManifestView
  pub texts : List (List ℕ)
  pub removals_file : Option (List ℕ)
  pub laid : IsLaidOut archive view texts removals_file
  pub stands : Stands folder (Some (standing_of folder view texts removals_file)) slots

-- The archive is in the folder, or there is no manifest.
abbrev pub IsArchiveAt : List ℕ → Option Archive → Slots → Type 0
IsArchiveAt folder None slots = (slots (manifest_place folder)).now ≡ Nothing
IsArchiveAt folder (Some archive) slots = IsArchiveIn folder archive slots

-- Each stop leaves one of these.
abbrev pub LeavesArchives : List ℕ → (Option Archive → Type 0) → Slots → Type 0
LeavesArchives folder Among slots =
    (left : Slots) → AreStops slots left → (archive : Option Archive) × Among archive × IsArchiveAt folder archive left
