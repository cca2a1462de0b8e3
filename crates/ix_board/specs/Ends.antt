-- What is known of a board that was closed by a seat that steps for all its workers.
use Rattle.std.specs.Prelude.{◌≡◌, ℕ, ◌<◌, ◌≤◌, List, [], map, Option, Some, slice_get}
use Rattle.ix_board.specs.declared.rule.Member.{Member}
use Rattle.ix_board.specs.Machine.{Run, steps_by, piece_of}
use Rattle.ix_board.specs.Laws.{left_by, IsPossible}
use Rattle.ix_board.specs.Crews.{times_in}

-- the members' steps are those of one possible run, and the slots have the pieces of the places that it leaves
pub record EndsWith {P : Type 0} (count workers : ℕ) (members : List (Member P)) (slots : List (Option P)) : Type 0 where
  pub run : Run P
  pub possible : IsPossible count workers run
  pub pieces : slots ≡ map piece_of (left_by count workers run)
  pub strangers : (w : ℕ) → workers ≤ w → steps_by w run ≡ []
  pub steps : (i : ℕ) (m : Member P) → slice_get members i ≡ Some m → (m.number < workers) × (steps_by m.number run ≡ m.steps)
  pub once : (k : ℕ) → times_in k members ≤ 1
