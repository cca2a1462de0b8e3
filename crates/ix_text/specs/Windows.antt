-- Trigrams: the windows of three characters of a text, and those of a term between two marks (IIR 3.2.2).
use Rattle.std.specs.Prelude.{ℕ, List, [], ◌∷◌, ◌++◌, map, chars, encode_utf8_all}

-- the windows of three characters, in order
abbrev pub windows_of_three : List ℕ → List (List ℕ)
windows_of_three [] = []
windows_of_three (a ∷ []) = []
windows_of_three (a ∷ b ∷ []) = []
windows_of_three (a ∷ b ∷ c ∷ rest) = (a ∷ b ∷ c ∷ []) ∷ windows_of_three (b ∷ c ∷ rest)

-- the same of a text, each window as its bytes
unfoldable pub trigram_list : List ℕ → List (List ℕ)
trigram_list text = map encode_utf8_all (windows_of_three (chars text))

-- the grams of a term: the trigrams of `$term$`
unfoldable pub grams_of : List ℕ → List (List ℕ)
grams_of term = trigram_list (36 ∷ (term ++ 36 ∷ []))
