-- Terms by their fronts, in the order of bytes.
use Rattle.std.specs.Prelude.{◌≡◌, ℕ, Bool, List, if◌then◌else◌, ◌++◌, length, take}
use Rattle.std.specs.Cmp.Lexicographic.{slice_cmp}
use Rattle.std.specs.Ordering.{is_le, is_lt, nat_cmp}
use Rattle.std.specs.declared.cmp.Ordering.{Ordering}

-- the term is the text and what follows it
abbrev pub BeginsWith : List ℕ → List ℕ → Type 0
BeginsWith term text = (rest : List ℕ) × (term ≡ text ++ rest)

-- on which side of the text the term's front of that length is
abbrev pub front_side : List ℕ → List ℕ → Ordering
front_side term text = slice_cmp nat_cmp (take (length text) term) text

-- that side is before the text, or, where `past` is set, not behind it
abbrev pub stands_before : Bool → Ordering → Bool
stands_before past side = if past then is_le side else is_lt side
