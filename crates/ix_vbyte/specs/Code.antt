-- The variable byte code of a number (Introduction to Information Retrieval, 5.3.1).
use Rattle.std.specs.Prelude.{◌≡◌, ◌≢◌, ℕ, ◌+◌, ◌/◌, ◌%◌, ◌^◌, ◌<◌, ◌≤◌, List, [], ◌∷◌, ◌++◌, map, All, slice_get, Some}
use Rattle.std.specs.Int.Digits.{number_from_digits, digits_of}

-- The low seven bits of the bytes, read in base 128, the most significant byte first.
unfoldable pub value_of : List ℕ → ℕ
value_of bytes = number_from_digits 128 (map (λ byte. byte % 128) bytes)

-- No byte has the top bit.
abbrev pub AreUnmarked : List ℕ → Type 0
AreUnmarked bytes = All (λ byte. byte < 128) bytes

-- The last byte, and no other, has the top bit.
pub record EndsMarked (bytes : List ℕ) : Type 0 where
  pub front : List ℕ
  pub last : ℕ
  pub parts : bytes ≡ front ++ last ∷ []
  pub unmarked : AreUnmarked front
  pub marked : 128 ≤ last
  pub byte : last < 256

-- The bytes are a code of the number: their low bits give it, the top bit ends it, and it has no leading zero.
pub record IsCode (number : ℕ) (bytes : List ℕ) : Type 0 where
  pub fits : number < 2 ^ 32
  pub value : value_of bytes ≡ number
  pub ends : EndsMarked bytes
  pub shortest : slice_get bytes 0 ≢ Some 0

-- The code of a number as a function: its digits in base 128, the top bit set in the last.
unfoldable pub code_of : ℕ → List ℕ
code_of number = digits_of 128 (number / 128) ++ (128 + number % 128) ∷ []
