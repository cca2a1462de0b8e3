-- A stop text: at most 2^28 bytes, cut at every LF; each line that is not empty holds exactly one word, a stop word (IIR 2.2.2).
use Rattle.std.specs.Prelude.{◌≡◌, ℕ, ◌^◌, ◌≤◌, ◌↔◌, ◌⊎◌, List, [], ◌∷◌, ◌++◌, map, length, flat_map, All, Contains, IsTrue}
use Rattle.unicode_segmentation.specs.Word.{words}
use Rattle.ix_text.specs.ByteOrder.{IsAscending}
use Rattle.ix_text.specs.Terms.{term_of_word}
use Rattle.ix_text.specs.TokenLists.{is_term_size}

-- the lines with an LF between each two
abbrev pub joined_lines : List (List ℕ) → List ℕ
joined_lines [] = []
joined_lines (line ∷ []) = line
joined_lines (line ∷ next ∷ lines) = line ++ 10 ∷ joined_lines (next ∷ lines)

-- the text cut at every LF
pub record IsCutAtLineFeeds (text : List ℕ) (lines : List (List ℕ)) : Type 0 where
  pub joined : text ≡ joined_lines lines
  pub unbroken : All (λ line. ¬ (Contains line 10)) lines

-- one word, whose term has 1 to 255 bytes
pub record IsStopWord (line : List ℕ) : Type 0 where
  pub word : List ℕ
  pub only : words line ≡ word ∷ []
  pub size : IsTrue (is_term_size (term_of_word word))

-- the stop terms of lines
unfoldable pub stop_terms_of : List (List ℕ) → List (List ℕ)
stop_terms_of lines = map term_of_word (flat_map words lines)

-- The text is a stop text of this stop set, which is given as the ascending list of its terms.
pub record IsStopText (text : List ℕ) (stop : List (List ℕ)) : Type 0 where
  pub short : length text ≤ 2 ^ 28
  pub lines : List (List ℕ)
  pub cut : IsCutAtLineFeeds text lines
  pub read : All (λ line. (line ≡ []) ⊎ IsStopWord line) lines
  pub ascending : IsAscending stop
  pub terms : (term : List ℕ) → Contains stop term ↔ Contains (stop_terms_of lines) term
