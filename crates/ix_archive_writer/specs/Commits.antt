-- A folder that is ready for a change of its archive.
use Rattle.std.specs.Prelude.{◌≡◌, ◌≢◌, ◌⊎◌, ℕ, List, All, Contains, Option, None, Some, IfSome, ◌++◌, codes, decimal}
use Rattle.ix_files.specs.Slots.{Place, Slots}
use Rattle.ix_folder.specs.Standings.{AreFileNames, AreKept, AreStops, IsFilePlace, IsSettled, Standing, Stands, files_of}
use Rattle.ix_manifest.specs.ManifestText.{ManifestView, manifest_text}
use Rattle.ix_archive.specs.Archives.{Archive}
use Rattle.ix_archive.specs.Folders.{IsArchiveAt, LeavesArchives, standing_of}
use Rattle.ix_archive.specs.Layouts.{IsLaidOut}
use Rattle.ix_archive_writer.specs.Changes.{IsLaid, IsWithout}

-- A stop left one of these archives, or no manifest if that is one of these.
pub record IsLeftArchive (folder : List ℕ) (among : List (Option Archive)) (left : Slots) : Type 0 where
  pub archive : Option Archive
  pub named : Contains among archive
  pub there : IsArchiveAt folder archive left

-- Each stop leaves one of these.
abbrev pub LeavesAmong : List ℕ → List (Option Archive) → Slots → Type 0
LeavesAmong folder among slots = LeavesArchives folder (Contains among) slots

-- The folder has `now`, and nothing else can come back. The manifest is that of `base`: of the archive that is there, or of one
-- without documents.
pub record IsReady (folder : List ℕ) (now : Option Archive) (base : Archive) (view : ManifestView) (slots : Slots) : Type 0 where
  pub texts : List (List ℕ)
  pub removals_file : Option (List ℕ)
  pub laid : IsLaid base view texts removals_file
  pub standing : Option Standing
  pub settled : IsSettled folder standing slots
  pub files : files_of standing ≡ (standing_of folder view texts removals_file).files
  pub back : (left : Slots) → Stands folder standing left → IsArchiveAt folder now left

-- The text is the manifest of `after`, whose files are on the disk, and the folder has `now`, which does not name the new file. A
-- commit makes `after` of it.
pub record IsCommit (folder : List ℕ) (now : Option Archive) (after : Archive) (new : Place) (text : List ℕ) (slots : Slots) : Type 0 where
  pub standing : Option Standing
  pub names : AreFileNames folder (files_of standing)
  pub settled : IsSettled folder standing slots
  pub back : (left : Slots) → Stands folder standing left → IsArchiveAt folder now left
  pub is_file : IsFilePlace folder new
  pub apart : All (λ file. file.place ≢ new) (files_of standing)
  pub view : ManifestView
  pub texts : List (List ℕ)
  pub removals_file : Option (List ℕ)
  pub spelled : text ≡ manifest_text view
  pub laid : IsLaidOut after view texts removals_file
  pub kept : AreKept (standing_of folder view texts removals_file).files slots

-- The folder has the files of the archive, with this manifest, and nothing else can come back.
pub record IsFoundIn (folder : List ℕ) (archive : Archive) (view : ManifestView) (slots : Slots) : Type 0 where
  pub texts : List (List ℕ)
  pub removals_file : Option (List ℕ)
  pub laid : IsLaidOut archive view texts removals_file
  pub settled : IsSettled folder (Some (standing_of folder view texts removals_file)) slots

-- The folder has an archive with this manifest, or no manifest.
abbrev pub IsFound : List ℕ → Option Archive → Option ManifestView → Slots → Type 0
IsFound folder None None slots = IsSettled folder None slots
IsFound folder None (Some view) slots = ⊥
IsFound folder (Some archive) None slots = ⊥
IsFound folder (Some archive) (Some view) slots = IsFoundIn folder archive view slots

-- These are names of all files of a manifest.
abbrev pub AreAllNames : Option ManifestView → List (List ℕ) → Type 0
AreAllNames None names = Unit {0}
AreAllNames (Some view) names =
    All (λ segment. Contains names (codes "segment-" ++ decimal segment.file)) view.segments
    × IfSome view.removals (λ line. Contains names (codes "removals-" ++ decimal line.file))

-- The folder has the archive without the documents of these names.
pub record HasWithout (folder : List ℕ) (names : List (List ℕ)) (archive : Archive) (left : Slots) : Type 0 where
  pub after : Archive
  pub without : IsWithout names archive after
  pub there : IsArchiveAt folder (Some after) left

-- Each stop leaves that.
abbrev pub LeavesWithout : List ℕ → List (List ℕ) → Archive → Slots → Type 0
LeavesWithout folder names archive slots = (left : Slots) → AreStops slots left → HasWithout folder names archive left

-- A stop left one of these archives, or the archive without the documents of these names.
abbrev pub IsLeftOrWithout : List ℕ → List (Option Archive) → List (List ℕ) → Archive → Slots → Type 0
IsLeftOrWithout folder among names archive left = IsLeftArchive folder among left ⊎ HasWithout folder names archive left
