-- The windows of a term as pairs of a gram and of the number of the term.
use Rattle.std.specs.Prelude.{◌≡◌, ℕ, List, [], ◌∷◌, ◌++◌, chars, encode_utf8_all, Contains}
use Rattle.ix_index_text.specs.declared.windows.GramPair.{GramPair}

-- the gram of a pair: the bytes of its three characters
abbrev pub gram_of : GramPair → List ℕ
gram_of pair = encode_utf8_all (pair.first ∷ pair.second ∷ pair.third ∷ [])

-- some pair is of the gram and of the number
pub record HasPair (pairs : List GramPair) (gram : List ℕ) (number : ℕ) : Type 0 where
  pub pair : GramPair
  pub among : Contains pairs pair
  pub spelled : gram_of pair ≡ gram
  pub numbered : pair.number ≡ number

-- a pair for each three characters in a row
abbrev pub pairs_of : ℕ → List ℕ → List GramPair
pairs_of number [] = []
pairs_of number (a ∷ []) = []
pairs_of number (a ∷ b ∷ []) = []
pairs_of number (a ∷ b ∷ c ∷ rest) = record { first = a; second = b; third = c; number = number } ∷ pairs_of number (b ∷ c ∷ rest)

-- the pairs of a term, between two marks
abbrev pub pairs_of_term : ℕ → List ℕ → List GramPair
pairs_of_term number term = pairs_of number (36 ∷ (chars term ++ 36 ∷ []))
