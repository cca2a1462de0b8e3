-- The postings of a term, and the bytes of a list of them.
use Rattle.std.specs.Prelude.{ℕ, ◌+◌, ◌-◌, ◌<◌, List, [], ◌∷◌, ◌++◌, map, length, All, flat_map}
use Rattle.ix_vbyte.specs.Code.{code_of}
use Rattle.ix_vbyte.specs.Gaps.{Ascends, gaps_of}

-- A document's number, and the positions at which it has the term.
abbrev pub Posting : Type 0
Posting = ℕ × List ℕ

abbrev pub documents_of : List Posting → List ℕ
documents_of postings = map (λ posting. posting.0) postings

-- There is a position, and positions ascend below `top`.
pub record IsPosting (top : ℕ) (posting : Posting) : Type 0 where
  pub some : 0 < length posting.1
  pub positions : Ascends 0 top posting.1

-- Documents ascend from `low` on and below `top`, and each one has positions below `top`.
pub record ArePostings (low top : ℕ) (postings : List Posting) : Type 0 where
  pub documents : Ascends low top (documents_of postings)
  pub each : All (IsPosting top) postings

-- The document and each position are below `top`.
abbrev pub LiesBelow : ℕ → Posting → Type 0
LiesBelow top posting = (posting.0 < top) × All (λ position. position < top) posting.1

-- The codes of the numbers, one behind another.
abbrev pub codes_of : List ℕ → List ℕ
codes_of numbers = flat_map code_of numbers

-- A posting whose document has this gap: the gap, the number of positions, and their gaps.
abbrev pub posting_bytes : ℕ → Posting → List ℕ
posting_bytes gap posting = code_of gap ++ code_of (length posting.1) ++ codes_of (gaps_of posting.1)

-- The bytes of a list, where `next` is one above the document before the first.
abbrev pub list_bytes_from : ℕ → List Posting → List ℕ
list_bytes_from next [] = []
list_bytes_from next (posting ∷ postings) = posting_bytes (posting.0 + 1 - next) posting ++ list_bytes_from (posting.0 + 1) postings

-- The coded list of a term's postings.
abbrev pub list_bytes : List Posting → List ℕ
list_bytes postings = list_bytes_from 0 postings

-- a posting whose document's number is raised
abbrev pub shifted_posting : ℕ → Posting → Posting
shifted_posting first posting = (first + posting.0, posting.1)

-- postings whose documents were counted from 0, and are counted from this number
abbrev pub shifted : ℕ → List Posting → List Posting
shifted first postings = map (shifted_posting first) postings
