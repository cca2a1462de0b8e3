-- Which tokens are marked.
use Rattle.std.specs.Prelude.{◌≡◌, ℕ, ◌*◌, ◌/◌, ◌%◌, ◌↔◌, List, slice_index, Contains, vec_len}
use Rattle.std.specs.Int.{bit_at}
use Rattle.ix_postings.specs.declared.token_marks.TokenMarks.{TokenMarks}

-- the number below which there are marks
unfoldable pub room : TokenMarks → ℕ
room marks = vec_len marks.words * 64

-- the bit of a number, 64 of them a word
abbrev pub mark_of : List ℕ → ℕ → ℕ
mark_of words number = bit_at (slice_index words (number / 64)) (number % 64)

-- exactly these numbers are marked
abbrev pub AreMarked : List ℕ → List ℕ → Type 0
AreMarked words numbers = (number : ℕ) → (mark_of words number ≡ 1) ↔ Contains numbers number

-- exactly these numbers are marked, each of which has a mark
unfoldable pub HoldsNumbers : TokenMarks → List ℕ → Type 0
HoldsNumbers marks numbers = AreMarked marks.words.items numbers

-- some number stands in both
abbrev pub ShareNumber : List ℕ → List ℕ → Type 0
ShareNumber one other = (number : ℕ) × Contains one number × Contains other number
