-- How a term of the dictionary is read behind the term before.
use Rattle.std.specs.Prelude.{◌≢◌, ℕ, ◌<◌, ◌≤◌, List, [], ◌∷◌, ◌++◌, length, slice_get, Contains}
use Rattle.ix_text.specs.ByteOrder.{IsAscending}
use Rattle.ix_text.specs.Terms.{IsTerm}
use Rattle.ix_file.specs.declared.open.dictionary.TermCut.{TermCut}

-- the bytes of the term that was cut
abbrev pub text_of : TermCut → List ℕ
text_of cut = cut.front.now ++ cut.own.now

-- The term shares so many bytes with the term before and no more, and has others, which what is left begins with.
pub record IsLongestFront (before : List ℕ) (shared size : ℕ) (left : List ℕ) : Type 0 where
  pub within : shared ≤ length before
  pub others : 0 < size
  pub begun : 0 < length left
  pub differs : slice_get before shared ≢ slice_get left 0

-- the term may stand behind the term before
pub record TermMayFollow (stop : List (List ℕ)) (before term : List ℕ) : Type 0 where
  pub is_term : IsTerm term
  pub above : IsAscending (before ∷ term ∷ [])
  pub unstopped : ¬ (Contains stop term)
