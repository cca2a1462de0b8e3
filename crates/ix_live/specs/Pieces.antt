-- Generations: how the documents of a live index are shared among its segments.
use Rattle.std.specs.Prelude.{ℕ, zero, suc, ◌+◌, ◌^◌, ◌<◌, ◌≤◌, ◌==◌, ⊤, List, [], ◌∷◌, All, if◌then◌else◌, length, map, reverse, Option, Some, None}
use Rattle.ix_live.specs.declared.segment.Segment.{Segment}
use Rattle.ix_live.specs.Segments.{rows_at}

-- a segment by its generation and the number of its documents
pub record Piece : Type 0 where
  pub generation : ℕ
  pub documents : ℕ

-- the generation of a segment
abbrev pub generation_at : Option Segment → ℕ
generation_at None = 0
generation_at (Some segment) = segment.generation

abbrev pub piece_at : Option Segment → Piece
piece_at segment = record { generation = generation_at segment; documents = length (rows_at segment) }

abbrev pub pieces_in : List (Option Segment) → List Piece
pieces_in segments = map piece_at segments

-- each piece has a higher generation than all behind it, and a piece of generation g has 2^g documents or more
abbrev pub Falls : List Piece → Type 0
Falls [] = ⊤
Falls (piece ∷ pieces) = All (λ later. later.generation < piece.generation) pieces × (2 ^ piece.generation ≤ piece.documents) × Falls pieces

-- Logarithmic merging (IIR 4.5), the newest piece first: while the newest two have one generation, they become one of the
-- next.
abbrev pub with_newest : Piece → List Piece → List Piece
with_newest piece [] = piece ∷ []
with_newest piece (last ∷ earlier) =
    if last.generation == piece.generation then with_newest (record { generation = piece.generation + 1; documents = last.documents + piece.documents }) earlier
    else piece ∷ last ∷ earlier

-- the same of pieces with the newest one last
abbrev pub with_piece : List Piece → Piece → List Piece
with_piece pieces piece = reverse (with_newest piece (reverse pieces))

-- the documents that are added are a new piece of generation 0; no documents change nothing
abbrev pub after_adding : ℕ → List Piece → List Piece
after_adding zero pieces = pieces
after_adding (suc more) pieces = with_piece pieces (record { generation = 0; documents = suc more })
