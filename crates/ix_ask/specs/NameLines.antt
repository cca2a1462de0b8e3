-- What `ask` and `search` write: the names of documents, each with LF.
use Rattle.std.specs.Prelude.{◌≡◌, ℕ, List, [], ◌∷◌, ◌++◌, flat_map, length, map, slice_get, Option, None, Some}
use Rattle.ix_text.specs.Collections.{Document, NamedText}

-- the names of documents as they are read
abbrev pub names_read : List NamedText → List (List ℕ)
names_read = map (λ document. document.name)

-- the names of documents as they are indexed
abbrev pub names_indexed : List Document → List (List ℕ)
names_indexed = map (λ document. document.name)

-- the line of a name
abbrev pub name_line : Option (List ℕ) → List ℕ
name_line None = []
name_line (Some name) = name ++ 10 ∷ []

-- the lines of the names with these numbers, in this order
abbrev pub name_lines : List (List ℕ) → List ℕ → List ℕ
name_lines names numbers = flat_map (λ number. name_line (slice_get names number)) numbers

-- the lines of all names, in this order
abbrev pub all_name_lines : List (List ℕ) → List ℕ
all_name_lines names = flat_map (λ name. name_line (Some name)) names

-- The lines are the names of all documents, in their order, and `count` is how many.
pub record AreAllNames (documents : List Document) (lines : List ℕ) (count : ℕ) : Type 0 where
  pub named : lines ≡ all_name_lines (names_indexed documents)
  pub counted : count ≡ length documents
