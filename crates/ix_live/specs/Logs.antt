-- The log of a live index: the operations of each publish, in order, and a word that holds how many these are.
use Rattle.std.specs.Prelude.{◌≡◌, ℕ, ◌==◌, true, List, [], ◌∷◌, ◌++◌, drop, length, MatchBool}
use Rattle.logbook.specs.Pages.{Book, Cell, Named, Step, View}
use Rattle.ix_live.specs.Histories.{Past, operations_of}
use Rattle.ix_live.specs.Operations.{Operation}
use Rattle.ix_live.specs.Segments.{joined}

-- how far a log was seen: which one it is, and its entries so far
pub record Reached : Type 0 where
  pub book : Book
  pub entries : List (List Operation)

-- the operations that a log has, of those that a past has, are not asked for again
abbrev pub rest_of : Reached → Past → List Operation
rest_of reached past = drop (length (joined reached.entries)) (operations_of past)

-- the word holds the length of the log; a book has two words, of which the second stays 0
abbrev pub IsLength : List Cell → List (List Operation) → Type 0
IsLength cells log = cells ≡ (length log, true) ∷ (0, true) ∷ []

-- the word of a book
abbrev pub head_of : Book → Named
head_of book = record { tracked = true; key = 0; book = book }

-- the entry was appended to all that had been seen; or another number was found
abbrev pub Appends : Step (List Operation) → View (List Operation) ℕ → ℕ → View (List Operation) ℕ → Type 0
Appends step before found after = MatchBool (found == step.old) (after.0 ≡ before.0 ++ step.ask ∷ []) (length after.0 ≡ found)
