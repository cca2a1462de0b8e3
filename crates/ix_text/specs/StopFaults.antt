-- Why a text is no stop text: its size, or its first line that is neither empty nor one word of lawful size (IIR 2.2.2).
use Rattle.std.specs.Prelude.{◌≡◌, ◌≢◌, ℕ, ◌+◌, ◌^◌, ◌<◌, ◌≤◌, ◌⊎◌, List, [], ◌∷◌, ◌++◌, length, All, IsFalse}
use Rattle.unicode_segmentation.specs.Word.{words}
use Rattle.ix_text.specs.StopText.{IsCutAtLineFeeds, IsStopWord}
use Rattle.ix_text.specs.Terms.{term_of_word}
use Rattle.ix_text.specs.TokenLists.{is_term_size}
use Rattle.ix_text.specs.declared.stop.StopError.{StopError}
use Rattle.ix_text.specs.declared.stop.StopError.TheVariants.{NotOneWord, LongWord, Memory, TooLarge}

-- a line that a stop text may have
abbrev pub IsStopLine : List ℕ → Type 0
IsStopLine line = (line ≡ []) ⊎ IsStopWord line

-- the line of this number has this fault: it holds something, but not one word, or one whose term has no lawful size
abbrev pub IsStopLineFault : List ℕ → ℕ → StopError → Type 0
IsStopLineFault line number (NotOneWord at) = (at ≡ number) × (line ≢ []) × (length (words line) ≢ 1)
IsStopLineFault line number (LongWord at) = (at ≡ number) × ((word : List ℕ) × (words line ≡ word ∷ []) × IsFalse (is_term_size (term_of_word word)))
IsStopLineFault line number Memory = ⊥
IsStopLineFault line number TooLarge = ⊥

-- the first line, counted from 1, that is no stop text's has this fault
pub record HasStopLineFault (text : List ℕ) (fault : StopError) : Type 0 where
  pub short : length text ≤ 2 ^ 28
  pub before : List (List ℕ)
  pub line : List ℕ
  pub after : List (List ℕ)
  pub cut : IsCutAtLineFeeds text (before ++ line ∷ after)
  pub earlier : All IsStopLine before
  pub fault_of_line : IsStopLineFault line (length before + 1) fault

-- the text has this fault
abbrev pub IsStopFault : List ℕ → StopError → Type 0
IsStopFault text (NotOneWord line) = HasStopLineFault text (NotOneWord line)
IsStopFault text (LongWord line) = HasStopLineFault text (LongWord line)
IsStopFault text Memory = ⊥
IsStopFault text TooLarge = 2 ^ 28 < length text
