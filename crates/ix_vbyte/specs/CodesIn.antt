-- The numbers that bytes tell, code behind code.
use Rattle.std.specs.Prelude.{ℕ, List, [], ◌∷◌, map, nat_lt, if◌then◌else◌}
use Rattle.ix_vbyte.specs.Code.{value_of}

-- A byte in front of the first of some pieces, or alone where there is none.
abbrev pub with_first : ℕ → List (List ℕ) → List (List ℕ)
with_first byte [] = (byte ∷ []) ∷ []
with_first byte (piece ∷ pieces) = (byte ∷ piece) ∷ pieces

-- The bytes cut behind each one that has the top bit.
unfoldable pub codes_in : List ℕ → List (List ℕ)
codes_in [] = []
codes_in (byte ∷ bytes) = if nat_lt byte 128 then with_first byte (codes_in bytes) else (byte ∷ []) ∷ codes_in bytes

-- What these pieces stand for.
unfoldable pub numbers_in : List ℕ → List ℕ
numbers_in bytes = map value_of (codes_in bytes)
