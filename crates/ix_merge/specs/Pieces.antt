-- The concatenation of collections that sources yield: what a merge of them stands for (IIR 4.3, 4.5).
use Rattle.std.specs.Prelude.{◌≡◌, ◌⊎◌, ℕ, ◌+◌, ◌<◌, List, [], map, length, slice_get, Some, All, Option}
use Rattle.std.specs.Io.KnownBytes.{Keeps}
use Rattle.ix_text.specs.Collections.{Collection, IsLawful}
use Rattle.ix_text.specs.Parts.{DictionaryEntry, ArePartsOf, row_of}
use Rattle.ix_output.specs.Sinks.{AppendsFront}
use Rattle.ix_file.specs.Endings.{WritesIndexText}
use Rattle.ix_file.specs.IndexText.{IsIndexText}
use Rattle.ix_file.specs.Sections.{FrontCoded}
use Rattle.ix_run.specs.Heads.{Heading, parts_with}
use Rattle.ix_run.specs.Sources.{Yielding}
use Rattle.ix_merge.specs.Covers.{Cover}

-- a collection whose documents count from a first number on
pub record Piece : Type 0 where
  pub first : ℕ
  pub collection : Collection

-- the heading of a source that yields the piece: its first number, stop terms, names and token counts
abbrev pub heading_of_piece : Piece → Heading
heading_of_piece piece = record { first = piece.first; stop = piece.collection.stop; rows = map row_of piece.collection.documents }

-- The whole has the documents of the pieces, each under its number, and their common stop set.
pub record IsConcatenation (pieces : List Piece) (whole : Collection) : Type 0 where
  pub cover : Cover (map heading_of_piece pieces) (length whole.documents)
  pub placed : All (λ piece. (number : ℕ) → number < length piece.collection.documents
      → slice_get whole.documents (piece.first + number) ≡ slice_get piece.collection.documents number) pieces
  pub stop : All (λ piece. piece.collection.stop ≡ whole.stop) pieces
  pub no_stop : pieces ≡ [] → whole.stop ≡ []

-- The source, of which nothing was asked yet, may yield the piece: entries that it may yield are those of the piece's
-- collection, under the source's own heading.
pub record MayYieldPiece {S : Type 0} (yields : Yielding S) (heading : S → Heading) (source : S) (piece : Piece) : Type 0 where
  pub headed : heading_of_piece piece ≡ heading source
  pub lawful : IsLawful piece.collection
  pub entries : List DictionaryEntry
  pub yielded : yields source [] entries
  pub of_collection : ArePartsOf piece.collection (parts_with (heading source) entries)

-- The sources may yield the pieces, one each.
pub record ArePiecesOf {S : Type 0} (yields : Yielding S) (heading : S → Heading) (sources : List S) (pieces : List Piece) : Type 0 where
  pub as_many : length pieces ≡ length sources
  pub each : (place : ℕ) (source : S) (piece : Piece) → slice_get sources place ≡ Some source → slice_get pieces place ≡ Some piece
      → MayYieldPiece yields heading source piece

-- Since `before`, the index text went out of the concatenation of pieces that the sources may yield.
pub record WritesConcatenation {S : Type 0} (yields : Yielding S) (heading : S → Heading) (sources : List S) (before now : Option (List ℕ)) : Type 0 where
  pub pieces : List Piece
  pub yielded : ArePiecesOf yields heading sources pieces
  pub whole : Collection
  pub concatenation : IsConcatenation pieces whole
  pub written : WritesIndexText before now whole

-- Since `before`, a front went out of the index text of a concatenation of pieces that have these headings: the names
-- and token counts of their documents, and the stop terms, are those of the sources.
pub record WritesFront (headings : List Heading) (before now : Option (List ℕ)) : Type 0 where
  pub pieces : List Piece
  pub headed : map heading_of_piece pieces ≡ headings
  pub whole : Collection
  pub concatenation : IsConcatenation pieces whole
  pub text : List ℕ
  pub of_whole : IsIndexText FrontCoded whole text
  pub gained : AppendsFront before now text

-- nothing went out, or a front of such a text
abbrev pub LeavesFront : List Heading → Option (List ℕ) → Option (List ℕ) → Type 0
LeavesFront headings before now = Keeps before now ⊎ WritesFront headings before now

-- Since `before`, a front of the text went out, and the whole of it only if this holds.
pub record WritesPart (before now : Option (List ℕ)) (text : List ℕ) (if_whole : Type 0) : Type 0 where
  pub front : AppendsFront before now text
  pub cut : front.rest ≡ [] → if_whole

-- Since `before`, such a front went out of the index text of the concatenation of pieces that the sources may yield.
pub record WritesYieldedPart {S : Type 0} (yields : Yielding S) (heading : S → Heading) (sources : List S) (before now : Option (List ℕ)) (if_whole : Type 0) : Type 0 where
  pub pieces : List Piece
  pub yielded : ArePiecesOf yields heading sources pieces
  pub whole : Collection
  pub concatenation : IsConcatenation pieces whole
  pub text : List ℕ
  pub of_whole : IsIndexText FrontCoded whole text
  pub gained : WritesPart before now text if_whole

-- nothing went out, or a front of such a text
abbrev pub LeavesYieldedPart : {S : Type 0} → Yielding S → (S → Heading) → List S → Option (List ℕ) → Option (List ℕ) → Type 0 → Type 0
LeavesYieldedPart yields heading sources before now if_whole = Keeps before now ⊎ WritesYieldedPart yields heading sources before now if_whole
