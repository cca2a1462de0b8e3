-- Where the postings of a dictionary lie in its documents, and that no token is told twice.
use Rattle.std.specs.Prelude.{ℕ, List, [], All, Contains}
use Rattle.ix_text.specs.ByteOrder.{IsAscending}
use Rattle.ix_text.specs.Parts.{DocumentRow, Parts, Posting, IsTermPosting, terms_of}
use Rattle.ix_text.specs.PartsLaws.{AreLawful, IsInRange, IsLawfulTerm}
use Rattle.ix_text.specs.TokenNumbers.{AreDistinct, numbers_of_entries}

-- a posting with some positions, ascending, that its document has
pub record IsPostingIn (rows : List DocumentRow) (posting : Posting) : Type 0 where
  pub is : IsTermPosting posting
  pub in_range : (position : ℕ) → Contains posting.1 position → IsInRange rows posting.0 position

-- lawful parts, but that a token may be told twice: they are lawful without their terms, and these ascend and are lawful one by one
pub record AreInOrder (parts : Parts) : Type 0 where
  pub without_terms : AreLawful (record { stop = parts.stop; rows = parts.rows; entries = [] })
  pub ascending : IsAscending (terms_of parts.entries)
  pub terms : All (IsLawfulTerm parts) parts.entries

-- parts in order that tell no token twice are lawful
abbrev pub DistinctTokensAreLawful : Type 0
DistinctTokensAreLawful = (parts : Parts) → AreInOrder parts → AreDistinct (numbers_of_entries parts.rows parts.entries) → AreLawful parts

-- lawful parts tell no token twice
abbrev pub LawfulTokensAreDistinct : Type 0
LawfulTokensAreDistinct = (parts : Parts) → AreLawful parts → AreInOrder parts × AreDistinct (numbers_of_entries parts.rows parts.entries)
