-- An opened index: what it says of a collection, without a byte of the text.
use Rattle.std.specs.Prelude.{◌≡◌, ℕ, List, map, length}
use Rattle.ix_text.specs.Collections.{Collection, IsLawful}
use Rattle.ix_text.specs.Parts.{DictionaryEntry, DocumentRow, GramEntry, Parts, Posting, ArePartsOf, AreGramsOf}
use Rattle.ix_index_text.specs.Sections.{Version, Plain, FrontCoded}

-- the version, the parts of the collection, and the grams of its terms
pub record Opened : Type 0 where
  pub version : Version
  pub parts : Parts
  pub grams : List GramEntry

-- the index is that of this lawful collection, in this version
pub record IsIndexOf (opened : Opened) (version : Version) (collection : Collection) : Type 0 where
  pub in_version : opened.version ≡ version
  pub lawful : IsLawful collection
  pub parts : ArePartsOf collection opened.parts
  pub grams : AreGramsOf collection opened.grams

-- a version as a number
abbrev pub version_number : Version → ℕ
version_number Plain = 1
version_number FrontCoded = 2

-- the names of the documents
abbrev pub names_of : List DocumentRow → List (List ℕ)
names_of rows = map (λ row. row.name) rows

-- how many tokens each document has
abbrev pub token_counts : List DocumentRow → List ℕ
token_counts rows = map (λ row. row.tokens) rows

-- the postings of each term
abbrev pub lists_of : List DictionaryEntry → List (List Posting)
lists_of entries = map (λ entry. entry.postings) entries

-- in how many documents each term is
abbrev pub document_counts : List DictionaryEntry → List ℕ
document_counts entries = map (λ entry. length entry.postings) entries

-- the grams
abbrev pub gram_texts : List GramEntry → List (List ℕ)
gram_texts grams = map (λ entry. entry.gram) grams
