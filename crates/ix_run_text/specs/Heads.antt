-- What stands in a run before its terms, and the parts that it makes with a dictionary.
use Rattle.std.specs.Prelude.{ℕ, ◌+◌, ◌^◌, ◌≤◌, List, All, length, map, string_bytes, sum_by}
use Rattle.ix_run_text.specs.declared.head.RunDoc.{RunDoc}
use Rattle.ix_run_text.specs.declared.head.RunHead.{RunHead}
use Rattle.ix_text.specs.Collections.{IsName}
use Rattle.ix_text.specs.StopSets.{IsStopSet}
use Rattle.ix_text.specs.Parts.{DictionaryEntry, DocumentRow, Parts}

-- the number of the first document, the stop terms, and the rows of the documents
pub record Heading : Type 0 where
  pub first : ℕ
  pub stop : List (List ℕ)
  pub rows : List DocumentRow

-- the row of a document of a run
abbrev pub row_of_doc : RunDoc → DocumentRow
row_of_doc doc = record { name = string_bytes doc.name; tokens = doc.tokens }

-- the heading that a run's head has
abbrev pub heading_of : RunHead → Heading
heading_of head = record { first = head.first; stop = head.stop; rows = map row_of_doc head.docs.items }

-- the heading's stop terms and rows, with these entries
abbrev pub parts_with : Heading → List DictionaryEntry → Parts
parts_with heading entries = record { stop = heading.stop; rows = heading.rows; entries = entries }

-- What a run may say before its terms: a stop set, and names and tokens within bounds.
pub record IsLawfulHeading (heading : Heading) : Type 0 where
  pub stop : IsStopSet heading.stop
  pub names : All (λ row. IsName row.name) heading.rows
  pub few_tokens : sum_by (λ row. row.tokens) heading.rows ≤ 2 ^ 28
  pub few_documents : heading.first + length heading.rows ≤ 2 ^ 28
