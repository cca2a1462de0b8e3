-- The words of a new board.
use Rattle.std.specs.Prelude.{◌≡◌, ℕ, ◌+◌, ◌<◌, ◌≤◌, List, length, slice_index}

-- A word for each place, which is held where it is some worker's first and else open, and one more.
pub record AreFirstWords (count workers : ℕ) (words : List ℕ) : Type 0 where
  pub words_are : length words ≡ count + 1
  pub held : (k : ℕ) → k < count → k < workers → slice_index words k ≡ 1
  pub free : (k : ℕ) → k < count → workers ≤ k → slice_index words k ≡ 0
