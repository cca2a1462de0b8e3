-- Removals as they are held: a map from names to bounds.
use Rattle.std.specs.Prelude.{ℕ, List, String, map, string_bytes}
use Rattle.ix_removals.specs.RemovalsText.{Removal}

-- the removals of a map's entries
abbrev pub removals_of : {Y : Type 0} → List (String Y × ℕ) → List Removal
removals_of entries = map (λ entry. record { name = string_bytes entry.0; below = entry.1 }) entries
