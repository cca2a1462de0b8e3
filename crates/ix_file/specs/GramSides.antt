-- Grams by the numbers that tell them apart, and those on one side of such a number.
use Rattle.std.specs.Prelude.{◌≡◌, ℕ, ◌+◌, ◌*◌, ◌^◌, ◌<◌, ◌≤◌, List}
use Rattle.ix_index_text.specs.GramTables.{text_of}
use Rattle.ix_file.specs.declared.open.sides.Side.{Side}
use Rattle.ix_file.specs.declared.open.sides.Side.TheVariants.{Below, From}
use Rattle.ix_index_text.specs.declared.windows.Gram.{Gram}

-- a number of a gram's three characters
abbrev pub gram_key : Gram → ℕ
gram_key gram = (gram.first * 2 ^ 21 + gram.second) * 2 ^ 21 + gram.third

-- no character is above the last of Unicode, which is below this
pub record AreChars (gram : Gram) : Type 0 where
  pub first : gram.first < 2 ^ 21
  pub second : gram.second < 2 ^ 21
  pub third : gram.third < 2 ^ 21

-- the key is that of the gram with this text
pub record IsKeyOf (text : List ℕ) (key : ℕ) : Type 0 where
  pub gram : Gram
  pub chars : AreChars gram
  pub keyed : gram_key gram ≡ key
  pub spelled : text_of gram ≡ text

-- the key is on the side
abbrev pub IsOn : Side → ℕ → Type 0
IsOn (Below end) key = key < end
IsOn (From start) key = start ≤ key
