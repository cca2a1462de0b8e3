-- Where codes end: at the bytes that have the top bit.
use Rattle.std.specs.Prelude.{ℕ, zero, suc, ◌+◌, ◌*◌, ◌^◌, List, [], ◌∷◌, nat_lt, if◌then◌else◌}

-- How many bytes the first `count` codes take, and all of them where fewer codes end.
unfoldable pub end_of : ℕ → List ℕ → ℕ
end_of zero bytes = 0
end_of (suc count) [] = 0
end_of (suc count) (byte ∷ bytes) = suc (end_of (if nat_lt byte 128 then suc count else count) bytes)

-- A number with the bit `mark` in each group of `width` bits whose byte has the top bit, the first byte's group lowest.
unfoldable pub marks_of : ℕ → ℕ → List ℕ → ℕ
marks_of width mark [] = 0
marks_of width mark (byte ∷ bytes) = marks_of width mark bytes * 2 ^ width + (if nat_lt byte 128 then 0 else mark)

-- How many codes end up to each byte, in a number with a group of eight bits for each, the first byte's lowest, where
-- `before` end before them.
unfoldable pub ends_by_byte : ℕ → List ℕ → ℕ
ends_by_byte before [] = 0
ends_by_byte before (byte ∷ bytes) =
    let now = before + (if nat_lt byte 128 then 0 else 1) in now + 256 * ends_by_byte now bytes
