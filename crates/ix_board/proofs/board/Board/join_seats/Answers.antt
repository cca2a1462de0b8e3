use Rattle.std.proofs.Common.{sym, ap, ◌∙◌, arith}
use Rattle.ix_board.specs.Desks.{BoardView}
use Rattle.ix_board.proofs.BoardCalls.{gathers_at}
use Rattle.ix_board.proofs.board.Board.join_seats.Goals as goal

pub join_seat-requires : goal.join_seat-requires
join_seat-requires g c =
    let seat = c.requires.seat in
    let other = c.requires.other in
    let table = sym (ap (λ (b : BoardView). b.table) c.self.view_is) in (
      seat.0 ∙ table,
      other.0 ∙ table,
      (λ i. (other.1 i).1),
      omega (arith, c.self.invariant.0),
      gathers_at _ _ c.self.view_is _ _ _ _ _ _ (λ i. (seat.1 i).0) (λ i. (other.1 i).0),
    )
