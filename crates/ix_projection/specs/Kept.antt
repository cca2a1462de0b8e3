-- Projection: of a collection and a test of terms, the collection in which every other token is nothing.
use Rattle.std.specs.Prelude.{ℕ, Bool, List, Some, None, map, filter, if◌then◌else◌}
use Rattle.ix_text.specs.Collections.{Collection, Document}
use Rattle.ix_text.specs.Parts.{DictionaryEntry, Parts}
use Rattle.ix_text.specs.TokenLists.{Entry}

-- which terms are kept
abbrev pub Test : Type 0
Test = List ℕ → Bool

-- a term that is kept stays, and any other becomes nothing
abbrev pub kept_entry : Test → Entry → Entry
kept_entry keeps None = None
kept_entry keeps (Some term) = if keeps term then Some term else None

-- a token list of the same length, so that positions stay
abbrev pub kept_tokens : Test → List Entry → List Entry
kept_tokens keeps tokens = map (kept_entry keeps) tokens

-- the document under its name
abbrev pub kept_document : Test → Document → Document
kept_document keeps document = record { name = document.name; tokens = kept_tokens keeps document.tokens }

-- the collection under its stop terms, each document under its number
unfoldable pub kept_collection : Test → Collection → Collection
kept_collection keeps collection = record { stop = collection.stop; documents = map (kept_document keeps) collection.documents }

-- the entries of a dictionary whose terms are kept, each with its postings
unfoldable pub kept_entries : Test → List DictionaryEntry → List DictionaryEntry
kept_entries keeps entries = filter (λ entry. keeps entry.term) entries

-- the parts with a smaller dictionary
unfoldable pub kept_parts : Test → Parts → Parts
kept_parts keeps parts = record { stop = parts.stop; rows = parts.rows; entries = kept_entries keeps parts.entries }
