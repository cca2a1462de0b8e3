-- What stands at the front of some bytes: a code, or one of three faults.
use Rattle.std.specs.Prelude.{◌≡◌, ◌≢◌, ℕ, ◌^◌, ◌<◌, ◌≤◌, List, [], ◌∷◌, ◌++◌, length, take, slice_get, Some}
use Rattle.ix_vbyte.specs.Code.{value_of, AreUnmarked, IsCode}

-- The first `count` bytes are the code of the number.
pub record StartsWithCode (bytes : List ℕ) (number count : ℕ) : Type 0 where
  pub within : count ≤ length bytes
  pub code : IsCode number (take count bytes)

-- The first byte is 00, which no code begins with.
abbrev pub StartsWithZero : List ℕ → Type 0
StartsWithZero bytes = slice_get bytes 0 ≡ Some 0

-- A front with no top bit before its last byte stands for a number that 32 bits cannot hold.
pub record IsTooBig (bytes : List ℕ) : Type 0 where
  pub front : List ℕ
  pub last : ℕ
  pub rest : List ℕ
  pub parts : bytes ≡ front ++ last ∷ rest
  pub unmarked : AreUnmarked front
  pub above : 2 ^ 32 ≤ value_of (front ++ last ∷ [])
  pub no_zero : slice_get bytes 0 ≢ Some 0

-- No byte ends a code, and what was read so far fits.
pub record IsCut (bytes : List ℕ) : Type 0 where
  pub unmarked : AreUnmarked bytes
  pub fits : value_of bytes < 2 ^ 32
  pub no_zero : slice_get bytes 0 ≢ Some 0
