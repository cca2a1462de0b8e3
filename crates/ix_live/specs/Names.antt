-- The names of documents, by their numbers.
use Rattle.std.specs.Prelude.{◌≡◌, ℕ, List, map, Option, Some, slice_get, option_map}
use Rattle.ix_text.specs.Collections.{Document}
use Rattle.ix_text.specs.Parts.{DocumentRow}

-- the name of the document of a number, by the documents' rows
abbrev pub name_in_rows : List DocumentRow → ℕ → Option (List ℕ)
name_in_rows rows number = option_map (λ row. row.name) (slice_get rows number)

-- the name of the document of a number, if there is one
abbrev pub name_of : List Document → ℕ → Option (List ℕ)
name_of documents number = option_map (λ document. document.name) (slice_get documents number)

-- each name is that of the document of the number at its place
abbrev pub AreNamesOf : List Document → List ℕ → List (List ℕ) → Type 0
AreNamesOf documents numbers names = map (λ name. Some name) names ≡ map (name_of documents) numbers
