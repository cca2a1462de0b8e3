-- The number that a token has in a whole collection, and the tokens that postings tell.
use Rattle.std.specs.Prelude.{ℕ, ◌+◌, List, [], ◌∷◌, ⊤, map, take, flat_map, sum_by, Contains}
use Rattle.ix_text.specs.Parts.{DictionaryEntry, DocumentRow, Posting}

-- the tokens of the documents before
abbrev pub tokens_before : List DocumentRow → ℕ → ℕ
tokens_before rows document = sum_by (λ row. row.tokens) (take document rows)

-- the tokens of the documents before, and then the position
abbrev pub token_number : List DocumentRow → ℕ → ℕ → ℕ
token_number rows document position = tokens_before rows document + position

-- the tokens of a posting
abbrev pub numbers_of_posting : List DocumentRow → Posting → List ℕ
numbers_of_posting rows posting = map (token_number rows posting.0) posting.1

-- the tokens of a list of postings
abbrev pub numbers_of_postings : List DocumentRow → List Posting → List ℕ
numbers_of_postings rows postings = flat_map (numbers_of_posting rows) postings

-- the tokens of a dictionary
abbrev pub numbers_of_entries : List DocumentRow → List DictionaryEntry → List ℕ
numbers_of_entries rows entries = flat_map (λ entry. numbers_of_postings rows entry.postings) entries

-- no number stands twice
abbrev pub AreDistinct : List ℕ → Type 0
AreDistinct [] = ⊤
AreDistinct (number ∷ numbers) = ¬ (Contains numbers number) × AreDistinct numbers
