-- A list of postings whose tokens are marked: the postings that its bytes spell.
use Rattle.std.specs.Prelude.{◌≡◌, ℕ, List, ◌++◌, length}
use Rattle.ix_text.specs.Parts.{DocumentRow, Posting}
use Rattle.ix_text.specs.TokenNumbers.{AreDistinct, numbers_of_postings}
use Rattle.ix_postings.specs.NextPostings.{PostingsFit}
use Rattle.ix_postings.specs.TokenMarks.{HoldsNumbers}
use Rattle.ix_postings.specs.declared.token_marks.TokenMarks.{TokenMarks}
use Rattle.ix_vbyte.specs.Postings.{list_bytes_from}

-- So many postings that may come next are the first of the bytes, in so many of them, and none of the numbers is one of their
-- tokens; other bytes come behind them.
pub record ListLies (rows : List DocumentRow) (next documents size : ℕ) (bytes numbers : List ℕ) (postings : List Posting) (behind : List ℕ) : Type 0 where
  pub fit : PostingsFit rows next postings
  pub counted : length postings ≡ documents
  pub sized : length (list_bytes_from next postings) ≡ size
  pub spelled : bytes ≡ list_bytes_from next postings ++ behind
  pub free : AreDistinct (numbers ++ numbers_of_postings rows postings)

-- Such postings are the first of the bytes, and exactly their tokens and those of the numbers are marked.
pub record IsChecked (rows : List DocumentRow) (marks : TokenMarks) (next documents size : ℕ) (bytes numbers : List ℕ) : Type 0 where
  pub postings : List Posting
  pub behind : List ℕ
  pub lies : ListLies rows next documents size bytes numbers postings behind
  pub marked : HoldsNumbers marks (numbers ++ numbers_of_postings rows postings)
