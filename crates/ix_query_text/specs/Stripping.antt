-- Entries without the holes at both ends.
use Rattle.std.specs.Prelude.{◌≡◌, ◌≢◌, ℕ, List, [], ◌∷◌, ◌++◌, replicate, None}
use Rattle.ix_text.specs.TokenLists.{Entry}

-- so many holes
abbrev pub holes : ℕ → List Entry
holes count = replicate count None

-- the entries are these with some holes before and behind them, and these have no hole at an end
pub record IsStripped (entries stripped : List Entry) : Type 0 where
  pub before : ℕ
  pub behind : ℕ
  pub whole : entries ≡ holes before ++ (stripped ++ holes behind)
  pub first : (rest : List Entry) → stripped ≢ None ∷ rest
  pub last : (front : List Entry) → stripped ≢ front ++ None ∷ []
