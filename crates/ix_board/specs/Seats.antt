-- What a seat of a board's table knows and holds, in the words of the board.
use Rattle.std.specs.Prelude.{◌≡◌, ℕ, false, List, [], ◌∷◌, Option, Some, None, slice_get}
use Rattle.atomic_table.specs.declared.shared.Seat.{Seat}
use Rattle.ix_board.specs.declared.step.Step.{Step}
use Rattle.ix_board.specs.declared.rule.Member.{Member}
use Rattle.ix_board.specs.declared.rule.Crew.{Crew}
use Rattle.ix_board.specs.Machine.{first_held, held_after}
use Rattle.ix_board.specs.Crews.{member, crew, desk_crew, slots_of, undealt}
use Rattle.ix_board.specs.Desks.{BoardView, DeskView, settled}

module _ {P : Type 0} where
  abbrev first_number : List (Member P) → ℕ
  first_number [] = 0
  first_number (m ∷ ms) = m.number

  abbrev first_steps : List (Member P) → List (Step P)
  first_steps [] = []
  first_steps (m ∷ ms) = m.steps

  -- the number of the worker that a desk's seat steps for
  abbrev pub number_in : Crew P → ℕ
  number_in v = first_number v.members

  -- the steps of that worker
  abbrev pub steps_in : Crew P → List (Step P)
  steps_in v = first_steps v.members

  -- the place that it holds, by its own steps
  abbrev pub held_in : BoardView → Crew P → Option ℕ
  held_in b v = held_after (first_held b.count b.workers (number_in v)) (steps_in v)

  -- the seat of a desk of this board, with the slot of the place that is held
  abbrev pub IsDeskSeat : BoardView → Option ℕ → Seat (Option P) (Crew P) → Type 0
  IsDeskSeat b held seat = (seat.table_id ≡ b.table) × (seat.me ≡ (desk_crew b.count b.workers (number_in seat.me.0) (steps_in seat.me.0), slots_of held))

  -- a seat that steps for these workers of this board, and holds no slot
  abbrev pub IsCrewSeat : BoardView → List (Member P) → Seat (Option P) (Crew P) → Type 0
  IsCrewSeat b members seat = (seat.table_id ≡ b.table) × (seat.me ≡ (crew b.count b.workers members, []))

  -- the seat that deals, once the workers below n have their seats
  abbrev pub IsDealer : BoardView → ℕ → Seat (Option P) (Crew P) → Type 0
  IsDealer b n seat = (seat.table_id ≡ b.table) × (seat.me ≡ (undealt b.count b.workers n, []))

  -- what a seat knows of a desk's worker, once the desk is handed back
  abbrev pub settled_member : DeskView P → Member P
  settled_member d = member d.number false (settled d)

  -- none of these workers of the board holds a place
  abbrev pub AreIdle : BoardView → List (Member P) → Type 0
  AreIdle b members = (i : ℕ) (m : Member P) → slice_get members i ≡ Some m → held_after (first_held b.count b.workers m.number) m.steps ≡ None
