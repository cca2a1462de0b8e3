-- A posting of one position whose gaps have short codes, at the front of some bytes.
use Rattle.std.specs.Prelude.{◌≡◌, ℕ, ◌+◌, ◌-◌, ◌*◌, ◌<◌, ◌≤◌, List, ◌++◌, length, drop}
use Rattle.ix_vbyte.specs.Code.{code_of}

-- The bytes of a posting of one position: its document's gap, the number of its positions, and its position's gap.
abbrev pub single_bytes : ℕ → ℕ → List ℕ
single_bytes gap position = code_of gap ++ (code_of 1 ++ code_of position)

-- Such a posting stands at the front, in so many bytes.
pub record BeginsWithSingle (bytes : List ℕ) (gap position size : ℕ) : Type 0 where
  pub gap_some : 0 < gap
  pub position_some : 0 < position
  pub spelled : bytes ≡ single_bytes gap position ++ drop size bytes
  pub sized : size ≡ length (single_bytes gap position)

-- The code of a number that is not 0 stands at the front, in so many bytes.
pub record BeginsWithShort (bytes : List ℕ) (number size : ℕ) : Type 0 where
  pub some : 0 < number
  pub spelled : bytes ≡ code_of number ++ drop size bytes
  pub sized : size ≡ length (code_of number)

-- The code that two bytes begin with: its number, which is not 0, and how many of them it takes.
pub record IsShortCode (first second number size : ℕ) : Type 0 where
  pub some : 0 < number
  pub one : 128 ≤ first → (number ≡ first - 128) × (size ≡ 1)
  pub two : first < 128 → (number ≡ first * 128 + (second - 128)) × (size ≡ 2) × (0 < first) × (128 ≤ second)
