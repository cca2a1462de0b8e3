-- What is in a folder of one manifest and the files that it names, and what a stop leaves of it.
use Rattle.std.specs.Prelude.{◌≡◌, ◌≢◌, ◌⊎◌, ℕ, List, [], Option, Some, None, All}
use Rattle.ix_files.specs.Changes.{StopsAt}
use Rattle.ix_files.specs.Slots.{Entry, Kept, Nothing, Place, Slots, at_rest}
use Rattle.ix_folder.specs.FolderNames.{draft_place, lock_place, manifest_place}

-- A file and its bytes.
pub record NamedFile : Type 0 where
  pub place : Place
  pub bytes : List ℕ

-- The bytes of a manifest, and the files that it names.
pub record Standing : Type 0 where
  pub manifest : List ℕ
  pub files : List NamedFile

-- what is at the manifest's name
abbrev pub manifest_of : Option Standing → Entry
manifest_of None = Nothing
manifest_of (Some standing) = Kept standing.manifest

-- the files that it names; none if there is no manifest
abbrev pub files_of : Option Standing → List NamedFile
files_of None = []
files_of (Some standing) = standing.files

-- The place is in the folder, and is none of its own: the manifest's, the new manifest's or the lock's.
pub record IsFilePlace (folder : List ℕ) (place : Place) : Type 0 where
  pub inside : place.folder ≡ folder
  pub no_manifest : place ≢ manifest_place folder
  pub no_draft : place ≢ draft_place folder
  pub no_lock : place ≢ lock_place folder

-- A manifest of the folder may name the file.
abbrev pub IsFileOf : List ℕ → NamedFile → Type 0
IsFileOf folder file = IsFilePlace folder file.place

abbrev pub AreFileNames : List ℕ → List NamedFile → Type 0
AreFileNames folder files = All (IsFileOf folder) files

-- The file is there, with its bytes on the disk. Its name need not be.
abbrev pub IsKeptIn : Slots → NamedFile → Type 0
IsKeptIn slots file = (slots file.place).now ≡ Kept file.bytes

abbrev pub AreKept : List NamedFile → Slots → Type 0
AreKept files slots = All (IsKeptIn slots) files

-- Its name is on the disk too, and nothing else comes back there.
abbrev pub RestsIn : Slots → NamedFile → Type 0
RestsIn slots file = slots file.place ≡ at_rest (Kept file.bytes)

-- The manifest is there, and the files that it names; or there is no manifest.
pub record Stands (folder : List ℕ) (standing : Option Standing) (slots : Slots) : Type 0 where
  pub manifest : (slots (manifest_place folder)).now ≡ manifest_of standing
  pub files : AreKept (files_of standing) slots

-- So they are on the disk: no crash changes it.
pub record IsSettled (folder : List ℕ) (standing : Option Standing) (slots : Slots) : Type 0 where
  pub manifest : slots (manifest_place folder) ≡ at_rest (manifest_of standing)
  pub files : All (RestsIn slots) (files_of standing)

-- A stop may leave this.
abbrev pub AreStops : Slots → Slots → Type 0
AreStops slots left = (place : Place) → StopsAt (slots place) (left place).now

-- Each stop leaves one of these.
abbrev pub Leaves : List ℕ → (Option Standing → Type 0) → Slots → Type 0
Leaves folder Among slots = (left : Slots) → AreStops slots left → (standing : Option Standing) × Among standing × Stands folder standing left

-- a stop left the one or the other
abbrev pub IsEither : List ℕ → Option Standing → Option Standing → Slots → Type 0
IsEither folder one other left = Stands folder one left ⊎ Stands folder other left
