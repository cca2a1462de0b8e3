-- What a desk shows of its fields, and what is true of them.
use Rattle.std.specs.Prelude.{◌≡◌, ℕ, ◌+◌, ◌<◌, ◌≤◌, [], Some}
use Rattle.std.specs.List.{count_by}
use Rattle.ix_board.specs.declared.desk.Desk.TheInside.{Inside}
use Rattle.ix_board.specs.Laws.{is_try, HasSeen}
use Rattle.ix_board.specs.Tours.{HasPassed}
use Rattle.ix_board.specs.Desks.{BoardView, DeskView}
use Rattle.ix_board.specs.Seats.{number_in, steps_in, held_in, IsDeskSeat}
use Rattle.ix_board.specs.Rooms.{HasRoom}

module _ {P : Type 0} (d : Inside P) where
  abbrev pub board_of : BoardView
  board_of = record { table = d.seat.table_id; count = d.seat.me.0.count; workers = d.seat.me.0.workers }

  abbrev pub desk_view : DeskView P
  desk_view = record { board = board_of; number = d.number; steps = steps_in d.seat.me.0 }

-- The seat knows the desk's steps and has the slot of the place that the desk holds, and what the tour has passed the desk has seen.
pub record IsSoundDesk {P : Type 0} (d : Inside P) : Type 0 where
  pub seated : IsDeskSeat (board_of d) d.held d.seat
  pub numbered : d.number ≡ number_in d.seat.me.0
  pub holds : d.held ≡ held_in (board_of d) d.seat.me.0
  pub holds_place : (k : ℕ) → d.held ≡ Some k → k < d.seat.me.0.count
  pub tour_fits : (d.tour.count ≡ d.seat.me.0.count) × (d.tour.own ≡ d.number)
  pub is_worker : d.number < d.seat.me.0.workers
  pub passed : (k : ℕ) → k < d.seat.me.0.count → HasPassed d.tour k → HasSeen d.seat.me.0.count d.seat.me.0.workers d.number (steps_in d.seat.me.0) k
  pub few_tries : count_by is_try (steps_in d.seat.me.0) + d.tour.left ≤ d.seat.me.0.count
  pub has_room : d.number ≡ 0 → HasRoom d.seat.me.0.count d.room
  pub empty : d.room.items ≡ []
