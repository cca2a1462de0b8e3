-- The rule of a board: between any two steps, the words and slots are those of the places that one possible run leaves, and each seat knows just the steps in it of the workers that it steps for.
use Rattle.std.specs.Prelude.{◌≡◌, ℕ, ◌+◌, ◌<◌, ◌≤◌, true, List, [], length, Option, Some, None, slice_get, slice_index}
use mathlib.Core.Option as maybe
use lib.ListN.{get_elem?}
use Rattle.atomic_table.specs.Table.{State}
use Rattle.ix_board.specs.declared.rule.Member.{Member}
use Rattle.ix_board.specs.declared.rule.Crew.{Crew}
use Rattle.ix_board.specs.Machine.{Place, open_place, held_by, done_by, given_up_by, Run, steps_by}
use Rattle.ix_board.specs.Laws.{left_by, IsPossible}
use Rattle.ix_board.specs.Crews.{times_in}

module _ {P : Type 0} where
  -- the word of a place
  abbrev pub code_of : Place P → ℕ
  code_of open_place = 0
  code_of (held_by w) = 1
  code_of (done_by w x) = 2
  code_of (given_up_by w) = 3

  -- slot k is at home with the piece of the place, unless the place is held: then the slot is out with the holder, or waits for it
  abbrev pub LiesWith : List (maybe.Option (Option P)) → ℕ → Place P → Type 0
  LiesWith homes k open_place = get_elem? homes k ≡ maybe.some (maybe.some None)
  LiesWith homes k (held_by w) = Unit {0}
  LiesWith homes k (done_by w x) = get_elem? homes k ≡ maybe.some (maybe.some (Some x))
  LiesWith homes k (given_up_by w) = get_elem? homes k ≡ maybe.some (maybe.some None)

  -- word and slot k show the place p
  abbrev pub Shows : List ℕ → List (maybe.Option (Option P)) → ℕ → Place P → Type 0
  Shows words homes k p = (slice_index words k ≡ code_of p) × LiesWith homes k p

-- The seat j, whose crew is v, knows the worker m: the run has just these steps of it, and no other seat steps for it
pub record IsTrueOf {P : Type 0} (count workers : ℕ) (run : Run P) (owner : ℕ → ℕ) (homes : List (maybe.Option (Option P))) (j : ℕ) (v : Crew P) (m : Member P) : Type 0 where
  pub count_is : v.count ≡ count
  pub workers_is : v.workers ≡ workers
  pub owned : owner m.number ≡ j
  pub numbered : m.number < workers
  pub stepped : steps_by m.number run ≡ m.steps
  pub owed : m.owed ≡ true → (m.steps ≡ []) × (m.number < count) × (get_elem? homes m.number ≡ maybe.some (maybe.some None))

pub record IsKept {P : Type 0} (count workers : ℕ) (s : State (Option P) (Crew P)) : Type 0 where
  pub run : Run P
  pub owner : ℕ → ℕ
  pub possible : IsPossible count workers run
  pub words_are : length s.words ≡ count + 1
  pub homes_are : length s.homes ≡ count
  pub each_place : (k : ℕ) (p : Place P) → slice_get (left_by count workers run) k ≡ Some p → Shows s.words s.homes k p
  pub strangers : (w : ℕ) → workers ≤ w → steps_by w run ≡ []
  pub each_member : (j i : ℕ) (v : Crew P) (m : Member P) → get_elem? s.views j ≡ maybe.some v → slice_get v.members i ≡ Some m → IsTrueOf count workers run owner s.homes j v m
  pub apart : (j : ℕ) (v : Crew P) → get_elem? s.views j ≡ maybe.some v → (n : ℕ) → times_in n v.members ≤ 1
