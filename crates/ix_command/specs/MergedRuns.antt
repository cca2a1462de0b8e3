-- What `merge` makes of the files that its line names.
use Rattle.std.specs.Prelude.{◌≡◌, ◌⊎◌, ℕ, ◌+◌, ◌^◌, ◌<◌, List, ◌++◌, fold, length, map, max, take, Some, slice_get}
use Rattle.clap.specs.Walk.{Text}
use Rattle.ix_text.specs.Collections.{Collection}
use Rattle.ix_file.specs.Sections.{Version}
use Rattle.ix_run.specs.Heads.{Heading, IsLawfulHeading}
use Rattle.ix_run.specs.RunText.{IsRunText, heading_bytes}
use Rattle.ix_run.specs.RunTextErrors.{IsRefusal as IsOtherRefusal}
use Rattle.ix_run.specs.Sources.{Yielding}
use Rattle.ix_run.specs.RunTextError.{RunTextError}
use Rattle.ix_run.specs.RunTextError.TheVariants.{TooLarge}
use Rattle.ix_merge.specs.Pieces.{ArePiecesOf, IsConcatenation, Piece, heading_of_piece}
use Rattle.ix_merge.specs.Refusals.{IsRefusal}
use Rattle.ix_merge.specs.declared.merge_error.MergeError.TheVariants as merge_error
use Rattle.ix_files.specs.Reading.{Holding}
use Rattle.ix_command.specs.IndexFiles.{IsIndexHeld, RefusesIndex}
use Rattle.ix_command.specs.Refusals.{IsUnread as IsUnreadFile, IsUnsaved}
use Rattle.ix_command.specs.SavedIndexes.{SavesIndex}
use Rattle.ix_ask.specs.declared.refusal.EngineRefusal.TheVariants as engine
use Rattle.ix_command.specs.declared.refusal.Refusal.{Refusal}
use Rattle.ix_command.specs.declared.refusal.Refusal.TheVariants as refusal

-- ---- run files

-- The file holds the run text of this collection, its documents counted from this number.
pub record HoldsRun (Holds : Text → Type 0) (piece : Piece) : Type 0 where
  pub run : Text
  pub held : Holds run
  pub spelled : IsRunText piece.first piece.collection run

-- The file begins with the head of a run that may be.
pub record HoldsHead (Holds : Text → Type 0) (heading : Heading) : Type 0 where
  pub rest : Text
  pub held : Holds (heading_bytes heading ++ rest)
  pub lawful : IsLawfulHeading heading

-- The file begins with no such head.
pub record LacksHead (Holds : Text → Type 0) : Type 0 where
  pub text : Text
  pub held : Holds text
  pub none : (heading : Heading) (rest : Text) → IsLawfulHeading heading → ¬ (text ≡ heading_bytes heading ++ rest)

-- ---- index files, which stand behind the files before them

-- one above the number of the last document, or the first number where there is none
abbrev pub end_of : Heading → ℕ
end_of heading = heading.first + length heading.rows

-- the greatest of the ends, or 0 where there are none
abbrev pub greatest_end : List Heading → ℕ
greatest_end headings = fold (λ end heading. max end (end_of heading)) 0 headings

-- documents that count from this number stand behind those of all that have these headings
abbrev pub StandsBehind : List Heading → ℕ → Type 0
StandsBehind before first = first ≡ greatest_end before

-- The file of this path holds an index text, of either version, of this collection, whose documents stand behind those before.
pub record HoldsIndex (holds : Holding) (path : Text) (before : List Heading) (piece : Piece) : Type 0 where
  pub version : Version
  pub held : IsIndexHeld holds path version piece.collection
  pub behind : StandsBehind before piece.first

-- The file of this path holds an index text of a collection that has this heading behind those before.
pub record HoldsIndexHead (holds : Holding) (path : Text) (before : List Heading) (heading : Heading) : Type 0 where
  pub piece : Piece
  pub index : HoldsIndex holds path before piece
  pub headed : heading_of_piece piece ≡ heading

-- ---- files of either kind

-- the file of this path holds the run text or an index text of the piece
abbrev pub HoldsPiece : Holding → Text → List Heading → Piece → Type 0
HoldsPiece holds path before piece = HoldsRun (holds path) piece ⊎ HoldsIndex holds path before piece

-- The files hold these pieces, one each.
pub record HoldPieces (holds : Holding) (paths : List Text) (pieces : List Piece) : Type 0 where
  pub as_many : length pieces ≡ length paths
  pub each : (place : ℕ) (path : Text) (piece : Piece) → slice_get paths place ≡ Some path → slice_get pieces place ≡ Some piece
      → HoldsPiece holds path (take place (map heading_of_piece pieces)) piece

-- the file of this path holds the head of a run, or an index text, that has this heading
abbrev pub HoldsHeading : Holding → Text → List Heading → Heading → Type 0
HoldsHeading holds path before heading = HoldsHead (holds path) heading ⊎ HoldsIndexHead holds path before heading

-- The files hold these headings, one each.
pub record HoldHeadings (holds : Holding) (paths : List Text) (headings : List Heading) : Type 0 where
  pub as_many : length headings ≡ length paths
  pub each : (place : ℕ) (path : Text) (heading : Heading) → slice_get paths place ≡ Some path → slice_get headings place ≡ Some heading
      → HoldsHeading holds path (take place headings) heading

-- ---- what was saved

-- Under this path the index text was saved of the concatenation of collections that the sources may yield.
pub record SavesConcatenation {S : Type 0} (yields : Yielding S) (heading : S → Heading) (sources : List S) (saves : Holding) (path : Text) : Type 0 where
  pub pieces : List Piece
  pub yielded : ArePiecesOf yields heading sources pieces
  pub whole : Collection
  pub concatenation : IsConcatenation pieces whole
  pub saved : SavesIndex saves path whole

-- Under this path the index text was saved of the concatenation of the collections in the files.
pub record IsMerged (holds saves : Holding) (paths : List Text) (output : Text) : Type 0 where
  pub pieces : List Piece
  pub held : HoldPieces holds paths pieces
  pub whole : Collection
  pub concatenation : IsConcatenation pieces whole
  pub saved : SavesIndex saves output whole

-- ---- refusals

-- Why the head of a run file was not read: it has none, or a read or memory was refused.
abbrev pub RefusesHead : (Text → Type 0) → RunTextError → Type 0
RefusesHead Holds error = IsOtherRefusal error ⊎ LacksHead Holds

-- Why the run file of this path, at this place of the list, was not opened: it cannot be read, or its head was not.
pub data RefusesRunFile (holds : Holding) (path : Text) (place : ℕ) : Refusal → Type 0 where
  unread : {told : Refusal} → IsUnreadFile path told → RefusesRunFile holds path place told
  no_head : (error : RunTextError) → RefusesHead (holds path) error
      → RefusesRunFile holds path place (refusal.Engine (engine.Merge (merge_error.Source place error)))

-- Why the file of this path, at this place of the list, was not opened: as a run file, or as an index file.
abbrev pub RefusesInput : Holding → Text → ℕ → Refusal → Type 0
RefusesInput holds path place told = RefusesRunFile holds path place told ⊎ RefusesIndex holds path told

-- The file of this path holds an index text whose documents, behind those of the files before its place, go beyond 2^28.
pub record RefusesBeyond (holds : Holding) (paths : List Text) (path : Text) (place : ℕ) (told : Refusal) : Type 0 where
  pub before : List Heading
  pub held : HoldHeadings holds (take place paths) before
  pub piece : Piece
  pub index : HoldsIndex holds path before piece
  pub many : 2 ^ 28 < end_of (heading_of_piece piece)
  pub is : told ≡ refusal.Engine (engine.Merge (merge_error.Source place TooLarge))

-- Why files were not opened: one of them was not, or is an index of too many documents there.
pub record RefusesInputs (holds : Holding) (paths : List Text) (told : Refusal) : Type 0 where
  pub place : ℕ
  pub path : Text
  pub at_place : slice_get paths place ≡ Some path
  pub refuses : RefusesInput holds path place told ⊎ RefusesBeyond holds paths path place told

-- Why files with these headings gave no index file: they are not merged, memory ran out, or the file cannot be saved.
abbrev pub RefusesMerge : List Heading → Text → Refusal → Type 0
RefusesMerge headings path (refusal.Engine (engine.Merge error)) = IsRefusal headings error
RefusesMerge headings path told = IsUnsaved path told

-- Why `merge` was refused: the files were not opened, or gave no index file.
pub data IsMergeRefused (holds : Holding) (paths : List Text) (output : Text) (told : Refusal) : Type 0 where
  unopened : RefusesInputs holds paths told → IsMergeRefused holds paths output told
  unmerged : (headings : List Heading) → HoldHeadings holds paths headings → RefusesMerge headings output told → IsMergeRefused holds paths output told
