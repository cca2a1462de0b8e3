-- The lists of POSTINGS: which bytes are the list of a term whose postings lie in the documents.
use Rattle.std.specs.Prelude.{◌≡◌, ℕ, ◌+◌, ◌-◌, ◌≤◌, ◌++◌, List, flat_map, length, slice_range, All}
use Rattle.std.specs.List.{AllZip}
use Rattle.ix_vbyte.specs.Postings.{list_bytes, posting_bytes}
use Rattle.ix_text.specs.Parts.{AreTermPostings, DocumentRow, Posting}
use Rattle.ix_text.specs.TokenLaws.{IsPostingIn}
use Rattle.ix_text.specs.TokenNumbers.{AreDistinct, numbers_of_postings}
use Rattle.ix_file.specs.Claimed.{HasClaimed}
use Rattle.ix_file.specs.declared.open.claims.Claims.{Claims}
use Rattle.ix_file.specs.PlacedTerms.{PlacedTerm}

-- The bytes begin with those of a posting that lies in the documents, where `next` is one above the document before.
pub record IsNextPosting (rows : List DocumentRow) (next : ℕ) (bytes : List ℕ) (posting : Posting) (rest : List ℕ) : Type 0 where
  pub above : next ≤ posting.0
  pub is : IsPostingIn rows posting
  pub coded : bytes ≡ posting_bytes (posting.0 + 1 - next) posting ++ rest

-- The bytes are the list of so many postings, which lie in the documents.
pub record AreListedIn (rows : List DocumentRow) (count : ℕ) (bytes : List ℕ) (postings : List Posting) : Type 0 where
  pub counted : length postings ≡ count
  pub are : AreTermPostings postings
  pub each : All (IsPostingIn rows) postings
  pub coded : bytes ≡ list_bytes postings

-- the bytes of a term's list
abbrev pub list_in : List ℕ → PlacedTerm → List ℕ
list_in section term = slice_range section term.start (term.start + term.size)

-- The bytes of the term are the list of the postings.
abbrev pub IsListOf : List DocumentRow → List ℕ → PlacedTerm → List Posting → Type 0
IsListOf rows section term postings = AreListedIn rows term.documents (list_in section term) postings

-- Each term has its list, and no token stands in two lists.
pub record AreListsIn (rows : List DocumentRow) (section : List ℕ) (terms : List PlacedTerm) (lists : List (List Posting)) : Type 0 where
  pub each : AllZip (IsListOf rows section) terms lists
  pub distinct : AreDistinct (flat_map (numbers_of_postings rows) lists)

-- Each term has its list, and the tokens of the lists were claimed, one by one.
pub record AreClaimedLists (rows : List DocumentRow) (section : List ℕ) (terms : List PlacedTerm) (claims : Claims) : Type 0 where
  pub lists : List (List Posting)
  pub each : AllZip (IsListOf rows section) terms lists
  pub claimed : HasClaimed claims (flat_map (numbers_of_postings rows) lists)
