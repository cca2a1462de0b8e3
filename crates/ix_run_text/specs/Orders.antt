-- How a text stands to texts before it.
use Rattle.std.specs.Prelude.{◌≡◌, ℕ, ◌-◌, ◌<◌, List, length, slice_index_or}
use Rattle.std.specs.Cmp.Lexicographic.{slice_cmp}
use Rattle.std.specs.Ordering.{nat_cmp}
use Rattle.std.specs.declared.cmp.Ordering.TheVariants.{Less}

-- the text stands above the last of the texts, if there is one
abbrev pub StandsAbove : List (List ℕ) → List ℕ → Type 0
StandsAbove texts text = (none : List ℕ) → 0 < length texts → slice_cmp nat_cmp (slice_index_or texts (length texts - 1) none) text ≡ Less
