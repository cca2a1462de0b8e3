-- What is left of a section that is read in pieces.
use Rattle.std.specs.Prelude.{◌≡◌, ℕ, ◌≤◌, ◌⊎◌, List, ◌++◌, length, take, drop}
use Rattle.ix_lookup.specs.declared.pieces.Pieces.{Pieces}
use Rattle.ix_lookup.specs.declared.pieces.TheConstants.{ROW_BYTES}

-- what is left of the current piece
abbrev pub rest_in : Pieces → List ℕ
rest_in pieces = drop pieces.place pieces.piece.items

-- the bytes that were not read yet
abbrev pub unread_in : Pieces → List ℕ → List ℕ
unread_in pieces bytes = take pieces.unread (drop pieces.start bytes)

-- all that is left
abbrev pub left_in : Pieces → List ℕ → List ℕ
left_in pieces bytes = rest_in pieces ++ unread_in pieces bytes

-- What is left of the current piece has the bytes of a row, or is all that is left.
abbrev pub HasRow : Pieces → Type 0
HasRow pieces = (ROW_BYTES ≤ length (rest_in pieces)) ⊎ (pieces.unread ≡ 0)
