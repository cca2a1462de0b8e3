-- The order of terms, stop terms and grams: that of their UTF-8 bytes, which is the order of their characters.
use Rattle.std.specs.Prelude.{ℕ, List}
use Rattle.std.specs.Ordering.{nat_cmp}
use Rattle.std.specs.Cmp.Lexicographic.{slice_cmp}
use Rattle.std.specs.List.Sorted.{IsStrictlySortedBy}

-- each text stands above those before it, so that none stands twice
abbrev pub IsAscending : List (List ℕ) → Type 0
IsAscending texts = IsStrictlySortedBy (slice_cmp nat_cmp) texts
