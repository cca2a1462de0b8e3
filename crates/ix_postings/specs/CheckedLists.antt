-- A list of postings whose tokens are seen as it is checked: the postings that its bytes spell.
use Rattle.std.specs.Prelude.{◌≡◌, ℕ, ◌+◌, ◌-◌, ◌<◌, ◌≤◌, ◌⊎◌, List, ◌++◌, length, take, drop}
use Rattle.ix_text.specs.Parts.{DocumentRow, Posting}
use Rattle.ix_text.specs.TokenNumbers.{numbers_of_posting, numbers_of_postings}
use Rattle.ix_postings.specs.NextPostings.{PostingFits, PostingsFit, numbers_at}
use Rattle.ix_postings.specs.SeenTokens.{SeesMore}
use Rattle.ix_postings.specs.TokenTables.{HasTokens}
use Rattle.ix_postings.specs.declared.list_fault.ListFault.{ListFault}
use Rattle.ix_postings.specs.declared.list_fault.ListFault.TheVariants.{Memory, Number}
use Rattle.ix_postings.specs.declared.token_table.TokenTable.{TokenTable}
use Rattle.ix_vbyte.specs.Code.{code_of}
use Rattle.ix_vbyte.specs.Gaps.{Ascends, gaps_of, next_after}
use Rattle.ix_vbyte.specs.Postings.{codes_of, documents_of, list_bytes, posting_bytes}
use Rattle.ix_vbyte.specs.declared.errors.VbError.TheVariants.{Cut}

-- The bytes begin with this position, in so many of them: it is not below `next`, and below the end.
pub record BeginsWithPosition (next end : ℕ) (bytes : List ℕ) (position size : ℕ) : Type 0 where
  pub above : next ≤ position
  pub below : position < end
  pub spelled : bytes ≡ code_of (position + 1 - next) ++ drop size bytes
  pub sized : size ≡ length (code_of (position + 1 - next))

-- The bytes begin with so many positions below the end, in so many of them; their tokens were seen, where the first token of the
-- document has this number.
pub record SeesPositions (admits old new : List ℕ → Type 0) (first end count : ℕ) (bytes : List ℕ) (size : ℕ) : Type 0 where
  pub positions : List ℕ
  pub ascend : Ascends 0 end positions
  pub counted : length positions ≡ count
  pub spelled : bytes ≡ codes_of (gaps_of positions) ++ drop size bytes
  pub sized : size ≡ length (codes_of (gaps_of positions))
  pub seen : SeesMore admits old new (numbers_at first positions)

-- The bytes begin with a posting of this document, in so many of them, that may come next; its tokens were seen.
pub record SeesPosting (admits old new : List ℕ → Type 0) (tokens : TokenTable) (next : ℕ) (bytes : List ℕ) (document size : ℕ) : Type 0 where
  pub positions : List ℕ
  pub fits : (rows : List DocumentRow) → HasTokens tokens rows → PostingFits rows next (document, positions)
  pub spelled : bytes ≡ posting_bytes (document + 1 - next) (document, positions) ++ drop size bytes
  pub sized : size ≡ length (posting_bytes (document + 1 - next) (document, positions))
  pub seen : (rows : List DocumentRow) → HasTokens tokens rows → SeesMore admits old new (numbers_of_posting rows (document, positions))

-- The bytes begin with a whole list of so many postings, in `size` of them; one above its last document is `next`; its tokens were
-- seen.
pub record SeesList (admits old new : List ℕ → Type 0) (rows : List DocumentRow) (bytes : List ℕ) (size documents next : ℕ) : Type 0 where
  pub postings : List Posting
  pub fit : PostingsFit rows 0 postings
  pub counted : length postings ≡ documents
  pub coded : take size bytes ≡ list_bytes postings
  pub sized : size ≡ length (list_bytes postings)
  pub next_is : next ≡ next_after 0 (documents_of postings)
  pub seen : SeesMore admits old new (numbers_of_postings rows postings)

-- So many positions come next, below the end; their tokens may be seen.
pub record StandNext (admits old : List ℕ → Type 0) (first end count : ℕ) (bytes numbers positions rest : List ℕ) : Type 0 where
  pub held : old numbers
  pub counted : length positions ≡ count
  pub ascend : Ascends 0 end positions
  pub free : admits (numbers ++ numbers_at first positions)
  pub spelled : bytes ≡ codes_of (gaps_of positions) ++ rest

-- The first bytes, `size` of them, are those of such a list, or begin one, of tokens that may be seen.
pub record ListStands (admits old : List ℕ → Type 0) (rows : List DocumentRow) (bytes : List ℕ) (size documents : ℕ) : Type 0 where
  pub numbers : List ℕ
  pub held : old numbers
  pub postings : List Posting
  pub missing : List ℕ
  pub fit : PostingsFit rows 0 postings
  pub free : admits (numbers ++ numbers_of_postings rows postings)
  pub counted : length postings ≡ documents
  pub spelled : take size bytes ++ missing ≡ list_bytes postings

-- The bytes end within these: an error of their end alone comes.
abbrev pub IsCutShort : List ℕ → List ℕ → ListFault → Type 0
IsCutShort bytes whole fault = (fault ≡ Number Cut) × (length bytes < length whole)

-- It is that error, or there is no memory.
abbrev pub MayFail : List ℕ → List ℕ → ListFault → Type 0
MayFail bytes whole fault = (fault ≡ Memory) ⊎ IsCutShort bytes whole fault
