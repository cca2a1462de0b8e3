-- What a query finds in one segment, and why it finds nothing.
use Rattle.std.specs.Prelude.{◌≡◌, ◌↔◌, ℕ, ◌+◌, List, length, slice_get, Some, Contains}
use Rattle.std.specs.List.Sorted.{IsStrictlyIncreasing}
use Rattle.ix_text.specs.Collections.{Collection}
use Rattle.ix_file.specs.declared.open_error.OpenError.{OpenError}
use Rattle.ix_file.specs.declared.open_error.OpenError.TheVariants as opening
use Rattle.ix_extract.specs.declared.extract_error.ExtractError.{ExtractError}
use Rattle.ix_extract.specs.declared.extract_error.ExtractError.TheVariants as extracting
use Rattle.ix_query_text.specs.Grammar.{Reads}
use Rattle.ix_query_text.specs.Machine.{query_of}
use Rattle.ix_query_text.specs.QueryErrors.{Fails}
use Rattle.ix_query_text.specs.declared.tree.Tree.{Tree}
use Rattle.ix_scan.specs.ScansWithout.{IsScanWithout}
use Rattle.ix_ask.specs.NameLines.{name_lines, names_indexed}
use Rattle.ix_removals.specs.RemovalsText.{Removal, IsRemoved}
use Rattle.ix_archive.specs.declared.archive_error.ArchiveError.TheVariants.{Segment}
use Rattle.ix_archive.specs.declared.read_error.ReadError.{ReadError}
use Rattle.ix_archive.specs.declared.read_error.ReadError.TheVariants as reading

-- The document of that number is removed. The documents have these names, and their numbers count from a first one on.
pub record IsGoneFrom (removals : List Removal) (first : ℕ) (names : List (List ℕ)) (number : ℕ) : Type 0 where
  pub name : List ℕ
  pub numbered : slice_get names number ≡ Some name
  pub removed : IsRemoved removals name (first + number)

-- Of numbers these are left that are not gone, in the same order.
pub record AreLeft (gone : ℕ → Type 0) (numbers left : List ℕ) : Type 0 where
  pub ascending : IsStrictlyIncreasing left
  pub exact : (number : ℕ) → Contains left number ↔ (Contains numbers number × ¬ (gone number))

-- The query reads as just one tree under the collection's stop set, the lines are the names of exactly the documents that
-- satisfy it and are not removed, and `count` is how many. The documents count from a first number on.
pub record FindsIn (collection : Collection) (removals : List Removal) (first : ℕ) (query lines : List ℕ) (count : ℕ) : Type 0 where
  pub tree : Tree
  pub numbers : List ℕ
  pub parsed : Reads collection.stop query tree
  pub only : (other : Tree) → Reads collection.stop query other → other ≡ tree
  pub scanned : IsScanWithout collection (IsGoneFrom removals first (names_indexed collection.documents)) tree numbers
  pub named : lines ≡ name_lines (names_indexed collection.documents) numbers
  pub counted : count ≡ length numbers

-- the error of an extraction from the segment of a file
abbrev pub error_of_extract : ℕ → ExtractError → ReadError
error_of_extract file extracting.Memory = reading.Memory
error_of_extract file extracting.Read = reading.Read
error_of_extract file (extracting.Query error) = reading.Query error
error_of_extract file (extracting.Index error) = reading.Archive (Segment file error)

-- the error of opening the segment of a file
abbrev pub error_of_open : ℕ → OpenError → ReadError
error_of_open file opening.Memory = reading.Memory
error_of_open file error = reading.Archive (Segment file error)

-- Why a query finds nothing under a stop set: out of memory, a read failed, or this is its first fault.
abbrev pub RefusesFinding : List (List ℕ) → List ℕ → ReadError → Type 0
RefusesFinding stop query reading.Memory = Unit {0}
RefusesFinding stop query reading.Read = Unit {0}
RefusesFinding stop query (reading.Query error) = Fails error (query_of stop query)
RefusesFinding stop query (reading.Archive error) = ⊥
