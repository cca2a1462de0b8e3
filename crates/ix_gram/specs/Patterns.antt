-- Patterns: a text cut at its stars, each piece in the form that terms have, and the terms that it stands for (IIR 3.2).
use Rattle.std.specs.Prelude.{◌≡◌, ◌≢◌, ℕ, suc, ◌==◌, List, [], ◌∷◌, ◌++◌, map, length, All, Any, Contains, IsUtf8}
use Rattle.std.specs.List.{slice_split, join_with_byte}
use Rattle.ix_text.specs.Terms.{term_of_word}

-- these parts with a star between each two are the text, and no part has a star
pub record IsCutAtStars (text : List ℕ) (parts : List (List ℕ)) : Type 0 where
  pub some_part : parts ≢ []
  pub joined : join_with_byte 42 parts ≡ text
  pub starless : All (λ part. ¬ (Contains part 42)) parts

-- the parts of a text between its stars
unfoldable pub parts_of : List ℕ → List (List ℕ)
parts_of text = slice_split (λ byte. byte == 42) text

-- the pieces of a pattern: its parts, each in the form that terms have
unfoldable pub pieces_of : List ℕ → List (List ℕ)
pieces_of text = map term_of_word (parts_of text)

-- the text has a star
abbrev pub HasStar : List ℕ → Type 0
HasStar text = Contains text 42

-- the text has something other than stars
abbrev pub HasPiece : List ℕ → Type 0
HasPiece text = Any (λ byte. byte ≢ 42) text

-- the pieces in a row, with a gap between each two
abbrev pub in_a_row : List (List ℕ) → List (List ℕ) → List ℕ
in_a_row [] gaps = []
in_a_row (piece ∷ pieces) [] = piece
in_a_row (piece ∷ pieces) (gap ∷ gaps) = piece ++ (gap ++ in_a_row pieces gaps)

-- A term matches the pieces where it is the first piece, a gap of characters, the second piece, and so on to the last.
pub record Matches (term : List ℕ) (pieces : List (List ℕ)) : Type 0 where
  pub gaps : List (List ℕ)
  pub count : length pieces ≡ suc (length gaps)
  pub characters : All IsUtf8 gaps
  pub spelled : term ≡ in_a_row pieces gaps
