-- What is left of a coded list of postings, and of the positions of one, while it is walked.
use Rattle.std.specs.Prelude.{◌≡◌, ℕ, zero, suc, ◌+◌, ◌-◌, ◌^◌, ◌<◌, ◌≤◌, List, [], ◌∷◌, ◌++◌, length, take, drop, nat_lt, if◌then◌else◌}
use Rattle.ix_vbyte.specs.Code.{code_of}
use Rattle.ix_vbyte.specs.Gaps.{Ascends, gaps_from, numbers_from, numbers_of}
use Rattle.ix_vbyte.specs.Postings.{Posting, IsPosting, ArePostings, codes_of, posting_bytes, list_bytes_from, list_bytes}
use Rattle.ix_vbyte.specs.CodesIn.{numbers_in}

-- The positions whose gaps the bytes tell, where `next` is one above the position before.
unfoldable pub positions_told : ℕ → List ℕ → List ℕ
positions_told next bytes = numbers_from next (numbers_in bytes)

-- The postings that numbers tell, each by its gap, the number of its positions and their gaps,
-- where `next` is one above the document before.
abbrev pub postings_of : ℕ → ℕ → List ℕ → List Posting
postings_of zero next numbers = []
postings_of (suc count) next [] = []
postings_of (suc count) next (gap ∷ []) = []
postings_of (suc count) next (gap ∷ places ∷ numbers) = (next + gap - 1, numbers_of (take places numbers)) ∷ postings_of count (next + gap) (drop places numbers)

-- The same of bytes.
unfoldable pub postings_told : ℕ → ℕ → List ℕ → List Posting
postings_told count next bytes = postings_of count next (numbers_in bytes)

-- The bytes are the codes of the gaps of that many positions.
pub record ArePositionsFrom (next count : ℕ) (bytes : List ℕ) : Type 0 where
  pub ascend : Ascends next (2 ^ 32 - 1) (positions_told next bytes)
  pub coded : bytes ≡ codes_of (gaps_from next (positions_told next bytes))
  pub counted : length (positions_told next bytes) ≡ count

-- The bytes are those of a list of that many postings.
pub record ArePostingsFrom (next count : ℕ) (bytes : List ℕ) : Type 0 where
  pub are : ArePostings next (2 ^ 32 - 1) (postings_told count next bytes)
  pub coded : bytes ≡ list_bytes_from next (postings_told count next bytes)
  pub counted : length (postings_told count next bytes) ≡ count

-- The bytes are the coded list of some postings, that many.
pub record IsCodedList (count : ℕ) (bytes : List ℕ) : Type 0 where
  pub postings : List Posting
  pub are : ArePostings 0 (2 ^ 32 - 1) postings
  pub counted : length postings ≡ count
  pub coded : bytes ≡ list_bytes postings

-- The bytes begin with the code of a number.
pub record BeginsWithNumber (bytes : List ℕ) : Type 0 where
  pub number : ℕ
  pub rest : List ℕ
  pub fits : number < 2 ^ 32
  pub coded : bytes ≡ code_of number ++ rest

-- What was read from the front of the bytes is the number whose code stands there, and what follows it.
abbrev pub ReadsNumber : List ℕ → ℕ → List ℕ → Type 0
ReadsNumber bytes read rest = (number : ℕ) (others : List ℕ) → number < 2 ^ 32 → bytes ≡ code_of number ++ others → (read ≡ number) × (rest ≡ others)

-- A posting may stand where `next` is one above the document before.
pub record MayFollow (next : ℕ) (posting : Posting) : Type 0 where
  pub above : next ≤ posting.0
  pub below : posting.0 < 2 ^ 32 - 1
  pub is : IsPosting (2 ^ 32 - 1) posting

-- The bytes begin with those of a posting.
pub record BeginsWithPosting (next : ℕ) (bytes : List ℕ) : Type 0 where
  pub posting : Posting
  pub rest : List ℕ
  pub may : MayFollow next posting
  pub coded : bytes ≡ posting_bytes (posting.0 + 1 - next) posting ++ rest

-- What was read from the front of the bytes is the posting that stands there, and what follows it.
abbrev pub ReadsPosting : ℕ → List ℕ → ℕ → List ℕ → List ℕ → Type 0
ReadsPosting next bytes document positions rest = (posting : Posting) (others : List ℕ) → MayFollow next posting → bytes ≡ posting_bytes (posting.0 + 1 - next) posting ++ others → (document ≡ posting.0) × (positions ≡ posting.1) × (rest ≡ others)

-- The postings from the first on whose document is not below the one named.
abbrev pub from_document : ℕ → List Posting → List Posting
from_document document [] = []
from_document document (posting ∷ postings) = if nat_lt posting.0 document then from_document document postings else posting ∷ postings
