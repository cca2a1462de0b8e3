-- The windows of three characters of a term between two marks (IIR 3.2.2).
use Rattle.std.specs.Prelude.{ℕ, List, [], ◌∷◌, ◌++◌, Option, None, Some, chars}
use Rattle.ix_index_text.specs.declared.windows.Gram.{Gram}

-- a gram for each three characters in a row
abbrev pub grams_in_row : List ℕ → List Gram
grams_in_row [] = []
grams_in_row (a ∷ []) = []
grams_in_row (a ∷ b ∷ []) = []
grams_in_row (a ∷ b ∷ c ∷ rest) = record { first = a; second = b; third = c } ∷ grams_in_row (b ∷ c ∷ rest)

-- the characters of a text of which the first, if there is one, was read
abbrev pub read_chars : Option ℕ → List ℕ → List ℕ
read_chars None rest = []
read_chars (Some first) rest = first ∷ chars rest

-- the windows from this first and second character on, before the mark at the end
abbrev pub windows_left : ℕ → Option ℕ → List ℕ → List Gram
windows_left first second rest = grams_in_row (first ∷ (read_chars second rest ++ 36 ∷ []))

-- the windows of a term between two marks
abbrev pub windows_of_term : List ℕ → List Gram
windows_of_term term = grams_in_row (36 ∷ (chars term ++ 36 ∷ []))
