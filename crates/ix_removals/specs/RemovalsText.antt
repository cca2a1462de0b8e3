-- Removals, their text, and what they remove.
use Rattle.std.specs.Prelude.{◌≡◌, ℕ, ◌^◌, ◌<◌, List, ◌∷◌, [], ◌++◌, All, Contains, decimal}
use Rattle.std.specs.Cmp.Lexicographic.{slice_cmp}
use Rattle.std.specs.List.{flat_map}
use Rattle.std.specs.List.Sorted.{IsStrictlySortedBy}
use Rattle.std.specs.Ordering.{nat_cmp}
use Rattle.std.specs.declared.cmp.Ordering.{Ordering}
use Rattle.ix_text.specs.Collections.{IsName}

-- A removal removes the documents of a name whose numbers are below a bound.
pub record Removal : Type 0 where
  pub name : List ℕ
  pub below : ℕ

-- the line of a removal
abbrev pub line_of : Removal → List ℕ
line_of removal = decimal removal.below ++ 9 ∷ (removal.name ++ 10 ∷ [])

-- the text of removals
abbrev pub removals_text : List Removal → List ℕ
removals_text removals = flat_map line_of removals

-- A removal removes something, and its bound has 64 bits.
pub record IsRemoval (removal : Removal) : Type 0 where
  pub name : IsName removal.name
  pub some_number : 0 < removal.below
  pub fits : removal.below < 2 ^ 64

-- the order of the bytes of the names
abbrev pub name_cmp : Removal → Removal → Ordering
name_cmp one other = slice_cmp nat_cmp one.name other.name

-- The names ascend, so each is there at most once.
pub record AreRemovals (removals : List Removal) : Type 0 where
  pub each : All IsRemoval removals
  pub ascending : IsStrictlySortedBy name_cmp removals

-- One of the removals removes the document of this name that has this number.
pub record IsRemoved (removals : List Removal) (name : List ℕ) (number : ℕ) : Type 0 where
  pub removal : Removal
  pub among : Contains removals removal
  pub named : removal.name ≡ name
  pub earlier : number < removal.below
