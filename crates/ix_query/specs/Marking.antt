-- The places of the bits of a word.
use Rattle.std.specs.Prelude.{◌≡◌, ℕ, ◌+◌, ◌-◌, ◌^◌, ◌<◌, ◌≤◌, ◌⊎◌, ◌↔◌, List, Contains}
use Rattle.std.specs.Int.{bit_at}
use Rattle.ix_file.specs.Gaps.{Ascends, next_after}

-- the number is the place of a bit that is set, counted from `start`
abbrev pub IsBitFrom : ℕ → ℕ → ℕ → Type 0
IsBitFrom word start n = (start ≤ n) × (bit_at word (n - start) ≡ 1)

-- the places may follow what was found before
pub record CanAddBits (found : List ℕ) (word start : ℕ) : Type 0 where
  pub ascending : Ascends 0 (2 ^ 32 - 1) found
  pub behind : next_after 0 found ≤ start
  pub fits : (k : ℕ) → bit_at word k ≡ 1 → start + k < 2 ^ 32 - 1

-- exactly the places of the bits were added
pub record AddsBits (old new : List ℕ) (word start : ℕ) : Type 0 where
  pub ascending : Ascends 0 (2 ^ 32 - 1) new
  pub behind : next_after 0 new ≤ start + 64
  pub exact : (n : ℕ) → Contains new n ↔ (Contains old n ⊎ IsBitFrom word start n)
