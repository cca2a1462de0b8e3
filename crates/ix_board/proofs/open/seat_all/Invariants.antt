use Rattle.std.proofs.Common.{◌≡◌, ◌≤◌}
use Rattle.std.specs.Vec.{vec_capacity}
use Rattle.ix_board.specs.Desks.{fresh_desks}
use Rattle.ix_board.specs.Seats.{IsDealer}
use Rattle.ix_board.proofs.open.seat_all.Given as goal

abbrev pub invariant-loop-number : goal.invariant-loop-number
invariant-loop-number g l = IsDealer l.board l.number l.dealer × (l.desks.items ≡ fresh_desks l.board l.number) × (l.workers ≤ vec_capacity l.desks)
