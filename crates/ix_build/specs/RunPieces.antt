-- Runs as the pieces of a concatenation, and what a merge of them writes.
use Rattle.std.specs.Prelude.{◌≡◌, ◌⊎◌, ℕ, ◌+◌, ◌^◌, ◌<◌, ◌≤◌, List, [], ◌∷◌, length, flat_map, slice_get, Some, Option}
use Rattle.std.specs.Io.KnownBytes.{Keeps}
use Rattle.ix_text.specs.Collections.{Collection, NamedText, collection_of, token_total}
use Rattle.ix_merge.specs.Endings.{WritesIndexText}
use Rattle.ix_merge.specs.IndexText.{IsIndexText}
use Rattle.ix_merge.specs.Sections.{FrontCoded}
use Rattle.ix_run.specs.Runs.{RunValue, IsRunOf}
use Rattle.ix_merge.specs.Pieces.{Piece, IsConcatenation, WritesPart}

-- The runs are those of the pieces, one each.
pub record AreRunsOf (runs : List RunValue) (pieces : List Piece) : Type 0 where
  pub as_many : length runs ≡ length pieces
  pub each : (place : ℕ) (run : RunValue) (piece : Piece) → slice_get runs place ≡ Some run → slice_get pieces place ≡ Some piece
      → IsRunOf run piece.first piece.collection

-- the collections of parts under a stop set: each part is numbered from the end of the one before it, and the first from this
-- number
abbrev pub pieces_from : ℕ → List (List ℕ) → List (List NamedText) → List Piece
pieces_from first stop [] = []
pieces_from first stop (part ∷ parts) = record { first = first; collection = collection_of stop part } ∷ pieces_from (first + length part) stop parts

-- The runs are those of parts of the texts under a stop set, one each: one part or more, which one after another, counted from 0, are
-- all the texts.
pub record AreRunsOfTexts (stop : List (List ℕ)) (texts : List NamedText) (runs : List RunValue) : Type 0 where
  pub parts : List (List NamedText)
  pub some : 0 < length parts
  pub whole : flat_map (λ part. part) parts ≡ texts
  pub of_parts : AreRunsOf runs (pieces_from 0 stop parts)

-- They are those of some texts, which have no more tokens than an index holds.
pub record AreInverted (runs : List RunValue) : Type 0 where
  pub stop : List (List ℕ)
  pub texts : List NamedText
  pub of_texts : AreRunsOfTexts stop texts runs
  pub few : token_total (collection_of stop texts) ≤ 2 ^ 28

-- Since `before`, the index text of the concatenation of the runs' collections was written.
pub record WritesRuns (runs : List RunValue) (before now : Option (List ℕ)) : Type 0 where
  pub pieces : List Piece
  pub of_pieces : AreRunsOf runs pieces
  pub whole : Collection
  pub concatenation : IsConcatenation pieces whole
  pub written : WritesIndexText before now whole

-- Since `before`, a prefix of the index text of the concatenation of the runs' collections was written, and the whole of it
-- only if `if_whole` holds.
pub record WritesRunsPart (runs : List RunValue) (before now : Option (List ℕ)) (if_whole : Type 0) : Type 0 where
  pub pieces : List Piece
  pub of_pieces : AreRunsOf runs pieces
  pub whole : Collection
  pub concatenation : IsConcatenation pieces whole
  pub text : List ℕ
  pub of_whole : IsIndexText FrontCoded whole text
  pub gained : WritesPart before now text if_whole

-- nothing was written, or such a prefix
abbrev pub LeavesRunsPart : List RunValue → Option (List ℕ) → Option (List ℕ) → Type 0 → Type 0
LeavesRunsPart runs before now if_whole = Keeps before now ⊎ WritesRunsPart runs before now if_whole
