-- What the files of given paths hold, and what was read of them.
use Rattle.std.specs.Prelude.{◌≡◌, ℕ, List, Option, Some, MatchOption, take}
use Rattle.ix_files.specs.Slots.{bytes_of}
use Rattle.ix_files.specs.Views.{View}

-- a path, and the bytes of the file there, as it was read or as it was saved
abbrev pub Holding : Type 1
Holding = List ℕ → List ℕ → Type 0

-- These bytes were read of the path: those of the file there, if all answers were as the files were.
abbrev pub held_in : View → Holding
held_in view path bytes = view.honest → (file : List ℕ) → bytes_of (view.slots (view.place path)).now ≡ Some file → bytes ≡ file

-- These are the first bytes of a file: this many of them, or all if it has fewer.
pub record IsFront (Holds : List ℕ → Type 0) (room : ℕ) (bytes : List ℕ) : Type 0 where
  pub whole : List ℕ
  pub held : Holds whole
  pub cut : bytes ≡ take room whole

-- What is known of bytes for which this holds: which they are; or nothing, and then it holds for any.
abbrev pub AreKnownOf : (List ℕ → Type 0) → Option (List ℕ) → Type 0
AreKnownOf Holds contents = MatchOption contents ((bytes : List ℕ) → Holds bytes) Holds
