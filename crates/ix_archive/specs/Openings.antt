-- The files of an archive that is opened.
use Rattle.std.specs.Prelude.{◌≡◌, ◌⊎◌, ⊤, ℕ, List, [], ◌∷◌, length, Option, None, Some}
use Rattle.ix_files.specs.Slots.{Kept, Place}
use Rattle.ix_files.specs.Views.{View}
use Rattle.ix_manifest.specs.declared.manifest.Removals.{Removals as RemovalsLine}
use Rattle.ix_manifest.specs.declared.manifest.Segment.{Segment}
use Rattle.ix_removals.specs.RemovalsText.{Removal}
use Rattle.ix_archive.specs.Archives.{Archive}
use Rattle.ix_archive.specs.Folders.{IsArchiveIn, removals_place, segment_place}
use Rattle.ix_archive.specs.Layouts.{AreRemovalsIn}
use Rattle.ix_archive.specs.declared.read_error.ReadError.{ReadError}
use Rattle.ix_archive.specs.declared.read_error.ReadError.TheVariants.{Memory, Read}

-- All answers are as the files are, and this text is at the place, on the disk.
pub record IsText (view : View) (place : Place) (text : List ℕ) : Type 0 where
  pub honest : view.honest
  pub kept : (view.slots place).now ≡ Kept text

-- The texts of segments are in the folder, one each, and have as many bytes as the manifest says.
abbrev pub AreTexts : View → List ℕ → List Segment → List (List ℕ) → Type 0
AreTexts view folder [] [] = ⊤
AreTexts view folder (segment ∷ segments) (text ∷ texts) =
    (IsText view (segment_place folder segment.file) text × (segment.bytes ≡ length text)) × AreTexts view folder segments texts
AreTexts view folder _ _ = ⊥

-- The file of these removals is in the folder, as the manifest says; or nothing is removed, and the manifest names no file.
abbrev pub AreRemovalsAt : View → List ℕ → ℕ → List Removal → Option RemovalsLine → Option (List ℕ) → Type 0
AreRemovalsAt view folder documents removals None None = removals ≡ []
AreRemovalsAt view folder documents removals (Some line) (Some text) =
    IsText view (removals_place folder line.file) text × AreRemovalsIn documents removals (Some line) (Some text)
AreRemovalsAt view folder documents removals _ _ = ⊥

-- All answers are as the files are, and the archive is in the folder to which the path leads.
pub record IsArchiveOf (view : View) (path : List ℕ) (archive : Archive) : Type 0 where
  pub honest : view.honest
  pub there : IsArchiveIn (view.folder path) archive view.slots

-- Out of memory, or a read of the system failed.
abbrev pub IsOutside : ReadError → Type 0
IsOutside error = (error ≡ Memory) ⊎ (error ≡ Read)
