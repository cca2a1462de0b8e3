-- The terms of a collection that match a pattern, and in how many documents each of them is (IIR 3.2).
use Rattle.std.specs.Prelude.{◌≡◌, ℕ, ◌↔◌, List, [], ◌∷◌, ◌++◌, map, length, flat_map, slice_get, Option, None, Some, All, Contains}
use Rattle.std.specs.Fmt.{decimal}
use Rattle.std.specs.Io.KnownBytes.{Appends, Keeps}
use Rattle.std.specs.List.Sorted.{IsStrictlyIncreasing}
use Rattle.ix_text.specs.ByteOrder.{IsAscending}
use Rattle.ix_text.specs.Collections.{Collection, HasPosting}
use Rattle.ix_text.specs.Parts.{DictionaryEntry}
use Rattle.ix_output.specs.Sinks.{AppendsFront}
use Rattle.ix_gram.specs.Patterns.{HasPiece, HasStar, Matches, pieces_of}
use Rattle.ix_gram.specs.declared.error.PatternError.{PatternError}
use Rattle.ix_gram.specs.declared.error.PatternError.TheVariants as pattern_error
use Rattle.ix_ask.specs.declared.ask_error.AskError.{AskError}
use Rattle.ix_ask.specs.declared.ask_error.AskError.TheVariants as asking

-- a term, and a number of documents
pub record TermRow : Type 0 where
  pub term : List ℕ
  pub documents : ℕ

-- the document of that number has the term
abbrev pub IsIn : Collection → List ℕ → ℕ → Type 0
IsIn collection term number = (position : ℕ) × HasPosting collection term number position

-- the numbers of exactly the documents that have the term, ascending
pub record AreHolders (collection : Collection) (term numbers : List ℕ) : Type 0 where
  pub ascending : IsStrictlyIncreasing numbers
  pub exact : (number : ℕ) → Contains numbers number ↔ IsIn collection term number

-- so many documents have the term
pub record IsCounted (collection : Collection) (row : TermRow) : Type 0 where
  pub numbers : List ℕ
  pub holders : AreHolders collection row.term numbers
  pub counted : row.documents ≡ length numbers

-- some document has the term
abbrev pub IsTermOf : Collection → List ℕ → Type 0
IsTermOf collection term = (number : ℕ) × IsIn collection term number

-- the terms of rows
abbrev pub row_terms : List TermRow → List (List ℕ)
row_terms = map (λ row. row.term)

-- a row for exactly each term of the collection that matches the pieces, ascending, with in how many documents it is
pub record AreRows (collection : Collection) (pieces : List (List ℕ)) (rows : List TermRow) : Type 0 where
  pub ascending : IsAscending (row_terms rows)
  pub exact : (term : List ℕ) → Contains (row_terms rows) term ↔ (IsTermOf collection term × Matches term pieces)
  pub counted : All (IsCounted collection) rows

-- the term, a TAB, the number, LF
abbrev pub row_line : TermRow → List ℕ
row_line row = row.term ++ 9 ∷ (decimal row.documents ++ 10 ∷ [])

-- the lines of rows
abbrev pub row_lines : List TermRow → List ℕ
row_lines = flat_map row_line

-- The text is a pattern, the lines are those of exactly the terms that match it, and `count` is how many.
pub record IsListed (collection : Collection) (pattern lines : List ℕ) (count : ℕ) : Type 0 where
  pub star : HasStar pattern
  pub piece : HasPiece pattern
  pub rows : List TermRow
  pub listed : AreRows collection (pieces_of pattern) rows
  pub printed : lines ≡ row_lines rows
  pub counted : count ≡ length rows

-- The lines went out whole.
pub record IsPrinted (collection : Collection) (pattern : List ℕ) (old new : Option (List ℕ)) (count : ℕ) : Type 0 where
  pub lines : List ℕ
  pub listed : IsListed collection pattern lines count
  pub written : Appends old new lines

-- A beginning of the lines went out.
pub record IsPrintCut (collection : Collection) (pattern : List ℕ) (old new : Option (List ℕ)) : Type 0 where
  pub lines : List ℕ
  pub count : ℕ
  pub listed : IsListed collection pattern lines count
  pub front : AppendsFront old new lines

-- the text is no pattern, by this rule; or memory ran out
abbrev pub IsNoPattern : List ℕ → PatternError → Type 0
IsNoPattern pattern pattern_error.NoStar = ¬ (HasStar pattern)
IsNoPattern pattern pattern_error.BareStar = HasStar pattern × ¬ (HasPiece pattern)
IsNoPattern pattern pattern_error.Memory = Unit {0}

-- Why there are no lines, before anything was written.
abbrev pub RefusesPattern : List ℕ → AskError → Type 0
RefusesPattern pattern (asking.Pattern error) = IsNoPattern pattern error
RefusesPattern pattern asking.Memory = Unit {0}
RefusesPattern pattern _ = ⊥

-- Why the terms were not listed, and what went out.
abbrev pub LeavesListing : Collection → List ℕ → Option (List ℕ) → Option (List ℕ) → AskError → Type 0
LeavesListing collection pattern old new asking.Write = IsPrintCut collection pattern old new
LeavesListing collection pattern old new error = RefusesPattern pattern error × Keeps old new

-- ---- rows by the numbers of terms

-- a row for each entry of a dictionary
abbrev pub term_rows : List DictionaryEntry → List TermRow
term_rows = map (λ entry. record { term = entry.term; documents = length entry.postings })

-- what there is, as a list
abbrev pub at_most_one : {X : Type 0} → Option X → List X
at_most_one None = []
at_most_one (Some x) = x ∷ []

-- the elements of these numbers, in this order
abbrev pub picked : {X : Type 0} → List X → List ℕ → List X
picked xs numbers = flat_map (λ number. at_most_one (slice_get xs number)) numbers
