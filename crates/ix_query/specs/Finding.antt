-- What an index says of a query, of each collection that its parts are those of.
use Rattle.std.specs.Prelude.{◌≡◌, ℕ, ◌+◌, ◌<◌, ◌-◌, ◌^◌, ◌↔◌, List, Option, Some, length, slice_get, Contains}
use Rattle.ix_text.specs.Collections.{Collection, HasPosting}
use Rattle.ix_text.specs.Parts.{Parts, Posting, ArePartsOf, HasPosition}
use Rattle.ix_file.specs.Gaps.{Ascends}
use Rattle.ix_file.specs.Postings.{ArePostings}
use Rattle.ix_query_text.specs.declared.tree.Tree.{Tree}
use Rattle.ix_query.specs.Scans.{SatisfiesAt}

-- the documents that are there are those that satisfy the query
abbrev pub AreFound : Parts → Tree → (ℕ → Type 0) → Type 0
AreFound parts query there = (collection : Collection) → ArePartsOf collection parts → (n : ℕ) → there n ↔ SatisfiesAt collection query n

-- the numbers are those of the documents that satisfy the query, ascending
pub record AreNumbersOf (parts : Parts) (query : Tree) (numbers : List ℕ) : Type 0 where
  pub ascending : Ascends 0 (2 ^ 32 - 1) numbers
  pub exact : AreFound parts query (λ n. Contains numbers n)

-- no document satisfies the query
abbrev pub AnswersNothing : Parts → Tree → Type 0
AnswersNothing parts query = (collection : Collection) → ArePartsOf collection parts → (n : ℕ) → ¬ (SatisfiesAt collection query n)

-- no document has the term
abbrev pub IsNowhere : Parts → List ℕ → Type 0
IsNowhere parts term = (collection : Collection) → ArePartsOf collection parts → (n p : ℕ) → ¬ (HasPosting collection term n p)

-- the postings are those of the term
pub record AreOfTerm (parts : Parts) (term : List ℕ) (postings : List Posting) : Type 0 where
  pub lawful : ArePostings 0 (2 ^ 32 - 1) postings
  pub posted : (collection : Collection) → ArePartsOf collection parts → (n p : ℕ) → HasPosition postings n p ↔ HasPosting collection term n p

-- The lists are those of the terms among the entries before `end`, each with its term's place.
pub record ArePlaced (parts : Parts) (entries : List (Option (List ℕ))) (end : ℕ) (lists : List (List Posting)) (places : List ℕ) : Type 0 where
  pub sound : (k : ℕ) (list : List Posting) (place : ℕ) → slice_get lists k ≡ Some list → slice_get places k ≡ Some place
      → (term : List ℕ) × (slice_get entries place ≡ Some (Some term)) × AreOfTerm parts term list
  pub complete : (place : ℕ) (term : List ℕ) → place < end → slice_get entries place ≡ Some (Some term)
      → (k : ℕ) × (list : List Posting) × (slice_get lists k ≡ Some list) × (slice_get places k ≡ Some place) × AreOfTerm parts term list

-- no document has the term so far from the position at which a phrase may start
abbrev pub IsBeyond : Parts → List ℕ → ℕ → Type 0
IsBeyond parts term place = (collection : Collection) → ArePartsOf collection parts → (n start : ℕ) → ¬ (HasPosting collection term n (start + place))

-- they are the numbers of all documents
abbrev pub AreEvery : Parts → (ℕ → Type 0) → Type 0
AreEvery parts there = (n : ℕ) → there n ↔ (n < length parts.rows)
