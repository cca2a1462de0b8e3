-- The terms of a dictionary that match a pattern (IIR 3.2).
use Rattle.std.specs.Prelude.{◌≡◌, ℕ, ◌↔◌, List, slice_get, Some, Contains}
use Rattle.std.specs.List.Sorted.{IsStrictlyIncreasing}
use Rattle.ix_gram.specs.Patterns.{Matches}

-- the term of that number matches the pieces
pub record IsMatch (terms pieces : List (List ℕ)) (number : ℕ) : Type 0 where
  pub term : List ℕ
  pub numbered : slice_get terms number ≡ Some term
  pub matched : Matches term pieces

-- the numbers of exactly the terms that match, ascending
pub record AreMatches (terms pieces : List (List ℕ)) (numbers : List ℕ) : Type 0 where
  pub ascending : IsStrictlyIncreasing numbers
  pub exact : (number : ℕ) → Contains numbers number ↔ IsMatch terms pieces number
