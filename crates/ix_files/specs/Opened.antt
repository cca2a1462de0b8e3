-- What a call answers of files, if its answer is as the files were.
use Rattle.std.specs.Prelude.{◌≡◌, ◌≢◌, Contains, List, ℕ, Option, None, Some}
use Rattle.ix_files.specs.Slots.{Entry, Nothing, Place, Slots, bytes_of}
use Rattle.ix_files.specs.Views.{View}
use Rattle.ix_files.specs.declared.file_error.FileError.{FileError}
use Rattle.ix_files.specs.declared.file_error.FileError.TheVariants as file_error
use Rattle.ix_files.specs.declared.kind.Kind.{Kind}
use Rattle.ix_files.specs.declared.kind.Kind.TheVariants as kind

-- A reader that has these bytes left was opened at the path: those of the file there, if it is one that nobody writes. What a
-- device or a pipe gives is not foretold.
pub record IsOpened (view : View) (path : List ℕ) (remaining : Option (List ℕ)) : Type 0 where
  pub bytes : List ℕ
  pub known : remaining ≡ Some bytes
  pub held : (file : List ℕ) → bytes_of (view.slots (view.place path)).now ≡ Some file → bytes ≡ file

-- It is what the path leads to: a file, or none.
abbrev pub IsKindOf : View → List ℕ → Kind → Type 0
IsKindOf view path kind.Missing = (view.slots (view.place path)).now ≡ Nothing
IsKindOf view path kind.File = (view.slots (view.place path)).now ≢ Nothing
IsKindOf view path kind.Folder = (view.slots (view.place path)).now ≡ Nothing
IsKindOf view path kind.Stream = (view.slots (view.place path)).now ≡ Nothing
IsKindOf view path kind.Other = (view.slots (view.place path)).now ≡ Nothing

-- A file was found exactly if there is one, and it has these bytes, if it is one that nobody writes.
abbrev pub IsFoundAt : Entry → Option (Option (List ℕ)) → Type 0
IsFoundAt entry None = entry ≡ Nothing
IsFoundAt entry (Some contents) = (entry ≢ Nothing) × ((bytes : List ℕ) → bytes_of entry ≡ Some bytes → contents ≡ Some bytes)

-- The name of each file in the folder is among them. So may be other names.
abbrev pub AreNamesIn : List ℕ → List (List ℕ) → Slots → Type 0
AreNamesIn folder names slots = (place : Place) → place.folder ≡ folder → (slots place).now ≢ Nothing → Contains names place.name

-- A path was not looked at or read: out of memory, or the system did not let it.
abbrev pub IsReadError : Type 0 → FileError → Type 0
IsReadError failed file_error.Memory = Unit {0}
IsReadError failed file_error.Failed = failed
IsReadError failed file_error.Exists = ⊥
IsReadError failed file_error.Locked = ⊥
