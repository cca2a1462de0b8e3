-- What the parts of an index or of a run say of a collection (IIR 1.2, 2.4.2, 3.2.2), without a byte of a format.
use Rattle.std.specs.Prelude.{◌≡◌, ℕ, ◌<◌, ◌↔◌, List, ◌++◌, map, length, All, Contains}
use Rattle.std.specs.List.Sorted.{IsStrictlyIncreasing}
use Rattle.ix_text.specs.ByteOrder.{IsAscending}
use Rattle.ix_text.specs.Collections.{Collection, Document, IsVocabulary, HasPosting, HasGram}

-- a document's number, and the positions at which it has a term
abbrev pub Posting : Type 0
Posting = ℕ × List ℕ

-- a term with its postings
pub record DictionaryEntry : Type 0 where
  pub term : List ℕ
  pub postings : List Posting

-- a document's name and the number of its tokens, entries that are nothing included
pub record DocumentRow : Type 0 where
  pub name : List ℕ
  pub tokens : ℕ

-- a row as formats have it, numbers coded so: the name behind the number of its bytes, and the number of the tokens
abbrev pub row_bytes : (ℕ → List ℕ) → DocumentRow → List ℕ
row_bytes code row = (code (length row.name) ++ row.name) ++ code row.tokens

-- the stop terms, the rows of the documents, and the dictionary
pub record Parts : Type 0 where
  pub stop : List (List ℕ)
  pub rows : List DocumentRow
  pub entries : List DictionaryEntry

-- the row of a document
abbrev pub row_of : Document → DocumentRow
row_of document = record { name = document.name; tokens = length document.tokens }

-- the terms of a dictionary
abbrev pub terms_of : List DictionaryEntry → List (List ℕ)
terms_of entries = map (λ entry. entry.term) entries

-- the postings have the position in the document of that number
pub record HasPosition (postings : List Posting) (number position : ℕ) : Type 0 where
  pub positions : List ℕ
  pub among : Contains postings (number, positions)
  pub positioned : Contains positions position

-- some position, and positions ascend
abbrev pub IsTermPosting : Posting → Type 0
IsTermPosting posting = (0 < length posting.1) × IsStrictlyIncreasing posting.1

-- some document, and documents ascend
pub record AreTermPostings (postings : List Posting) : Type 0 where
  pub some : 0 < length postings
  pub ascending : IsStrictlyIncreasing (map (λ posting. posting.0) postings)
  pub each : All IsTermPosting postings

-- the entry has exactly the postings of its term in the collection
pub record IsEntryOf (collection : Collection) (entry : DictionaryEntry) : Type 0 where
  pub ordered : AreTermPostings entry.postings
  pub posted : (number position : ℕ) → HasPosition entry.postings number position ↔ HasPosting collection entry.term number position

-- the parts are those of the collection
pub record ArePartsOf (collection : Collection) (parts : Parts) : Type 0 where
  pub stop : parts.stop ≡ collection.stop
  pub rows : parts.rows ≡ map row_of collection.documents
  pub vocabulary : IsVocabulary collection (terms_of parts.entries)
  pub entries : All (IsEntryOf collection) parts.entries

-- a gram with the numbers of the terms that have it
pub record GramEntry : Type 0 where
  pub gram : List ℕ
  pub numbers : List ℕ

-- the grams list the number under the gram
pub record HasNumber (grams : List GramEntry) (gram : List ℕ) (number : ℕ) : Type 0 where
  pub numbers : List ℕ
  pub among : Contains grams (record { gram = gram; numbers = numbers })
  pub listed : Contains numbers number

-- some number, and numbers ascend
abbrev pub IsGramEntry : GramEntry → Type 0
IsGramEntry entry = (0 < length entry.numbers) × IsStrictlyIncreasing entry.numbers

-- the grams are the trigram relation of the collection, grams and numbers ascending
pub record AreGramsOf (collection : Collection) (grams : List GramEntry) : Type 0 where
  pub ascending : IsAscending (map (λ entry. entry.gram) grams)
  pub each : All IsGramEntry grams
  pub related : (gram : List ℕ) (number : ℕ) → HasNumber grams gram number ↔ HasGram collection gram number
