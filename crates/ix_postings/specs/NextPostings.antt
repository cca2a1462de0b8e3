-- A posting that may come next in a list.
use Rattle.std.specs.Prelude.{◌≡◌, ℕ, ◌+◌, ◌^◌, ◌≤◌, List, [], ◌∷◌, ⊤, length, map, sum_by}
use Rattle.ix_text.specs.Parts.{DocumentRow, Posting}
use Rattle.ix_text.specs.TokenLaws.{IsPostingIn}
use Rattle.ix_postings.specs.TokenTables.{HasTokens}
use Rattle.ix_postings.specs.declared.token_table.TokenTable.{TokenTable}

-- A posting that may come next in a list: not below `next`, at positions that its document has.
pub record PostingFits (rows : List DocumentRow) (next : ℕ) (posting : Posting) : Type 0 where
  pub above : next ≤ posting.0
  pub is : IsPostingIn rows posting

-- postings that may come next in a list, one behind another
abbrev pub PostingsFit : List DocumentRow → ℕ → List Posting → Type 0
PostingsFit rows next [] = ⊤
PostingsFit rows next (posting ∷ postings) = PostingFits rows next posting × PostingsFit rows (posting.0 + 1) postings

-- the numbers of the tokens at these positions, where the first token of the document has this number
abbrev pub numbers_at : ℕ → List ℕ → List ℕ
numbers_at first positions = map (λ position. first + position) positions

-- The table has the rows of at most 2^28 documents and tokens, and each token may be seen.
pub record HaveRoom (tokens : TokenTable) (has_room : ℕ → Type 0) : Type 0 where
  pub rows : List DocumentRow
  pub has : HasTokens tokens rows
  pub few_documents : length rows ≤ 2 ^ 28
  pub few_tokens : sum_by (λ row. row.tokens) rows ≤ 2 ^ 28
  pub room : has_room (sum_by (λ row. row.tokens) rows)
