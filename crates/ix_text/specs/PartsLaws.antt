-- What the parts of a collection tell of it, and which parts are those of a lawful one.
use Rattle.std.specs.Prelude.{◌≡◌, ℕ, ◌^◌, ◌<◌, ◌≤◌, List, length, sum_by, slice_get, Some, All, Contains}
use Rattle.ix_text.specs.ByteOrder.{IsAscending}
use Rattle.ix_text.specs.Collections.{Collection, IsName, IsLawful, token_total}
use Rattle.ix_text.specs.Parts.{Posting, DictionaryEntry, DocumentRow, Parts, ArePartsOf, AreTermPostings, HasPosition, terms_of}
use Rattle.ix_text.specs.Terms.{IsTerm}

-- two collections with the same parts are the same
abbrev pub PartsTellCollection : Type 0
PartsTellCollection = (parts : Parts) (one other : Collection) → ArePartsOf one parts → ArePartsOf other parts → one ≡ other

-- the document of that number is there, and has the position
pub record IsInRange (rows : List DocumentRow) (number position : ℕ) : Type 0 where
  pub row : DocumentRow
  pub numbered : slice_get rows number ≡ Some row
  pub below : position < row.tokens

-- a term that is no stop term, with postings that lie in the documents
pub record IsLawfulTerm (parts : Parts) (entry : DictionaryEntry) : Type 0 where
  pub term : IsTerm entry.term
  pub no_stop : ¬ (Contains parts.stop entry.term)
  pub ordered : AreTermPostings entry.postings
  pub in_range : (number position : ℕ) → HasPosition entry.postings number position → IsInRange parts.rows number position

-- Parts of a lawful collection, said of the parts alone: no position of a document comes under two terms.
pub record AreLawful (parts : Parts) : Type 0 where
  pub stop_terms : All IsTerm parts.stop
  pub stop_ascending : IsAscending parts.stop
  pub few_stop_terms : length parts.stop ≤ 2 ^ 28
  pub names : All (λ row. IsName row.name) parts.rows
  pub few_documents : length parts.rows ≤ 2 ^ 28
  pub few_tokens : sum_by (λ row. row.tokens) parts.rows ≤ 2 ^ 28
  pub ascending : IsAscending (terms_of parts.entries)
  pub terms : All (IsLawfulTerm parts) parts.entries
  pub apart : (one other : DictionaryEntry) (number position : ℕ) → Contains parts.entries one → Contains parts.entries other
      → HasPosition one.postings number position → HasPosition other.postings number position → one.term ≡ other.term

-- some lawful collection has the parts
pub record HasCollection (parts : Parts) : Type 0 where
  pub collection : Collection
  pub lawful : IsLawful collection
  pub of_collection : ArePartsOf collection parts

-- lawful parts are those of a lawful collection
abbrev pub LawfulPartsHaveCollection : Type 0
LawfulPartsHaveCollection = (parts : Parts) → AreLawful parts → HasCollection parts

-- the parts of a lawful collection are lawful
abbrev pub LawfulCollectionsHaveLawfulParts : Type 0
LawfulCollectionsHaveLawfulParts = (collection : Collection) (parts : Parts) → IsLawful collection → ArePartsOf collection parts → AreLawful parts

-- documents and positions of lawful parts are below 2^28
abbrev pub LawfulPartsLieBelow : Type 0
LawfulPartsLieBelow =
    (parts : Parts) → AreLawful parts
    → All (λ entry. All (λ posting. (posting.0 < 2 ^ 28) × All (λ position. position < 2 ^ 28) posting.1) entry.postings) parts.entries

-- the positions of a term in all documents, counted
abbrev pub position_count : List Posting → ℕ
position_count postings = sum_by (λ posting. length posting.1) postings

-- no token is told twice: all terms have no more positions than the collection has tokens
abbrev pub TermsShareTokens : Type 0
TermsShareTokens = (collection : Collection) (parts : Parts) → ArePartsOf collection parts → sum_by (λ entry. position_count entry.postings) parts.entries ≤ token_total collection
