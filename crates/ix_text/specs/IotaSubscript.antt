-- Characters for which case folding reads the canonical order: U+0345, the one mark that folds to a letter, and those made with it
-- (The Unicode Standard, section 3.13, before D144).
use Rattle.std.specs.Prelude.{ℕ, Bool, ◌||◌, ◌&&◌, ◌==◌, nat_le}

-- the iota below, or a character of the part of Extended Greek where all stand that decompose to it
abbrev pub may_hold_iota : ℕ → Bool
may_hold_iota c = c == 0x345 || (nat_le 0x1F80 c && nat_le c 0x1FFF)
