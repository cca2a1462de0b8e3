use Rattle.std.proofs.Common.{sym, ap, ◌∙◌, arith}
use Rattle.ix_board.specs.Desks.{BoardView}
use Rattle.ix_board.proofs.BoardCalls.{gives_up_at}
use Rattle.ix_board.proofs.board.Board.leave_place.Goals as goal

pub compare_exchange-requires : goal.compare_exchange-requires
compare_exchange-requires g c =
    let seat = c.requires.seat in
    let count = ap (λ (b : BoardView). b.count) c.self.view_is in (
      seat.0 ∙ sym (ap (λ (b : BoardView). b.table) c.self.view_is),
      omega (arith, count, c.self.invariant.0, c.requires.place),
      gives_up_at _ _ c.self.view_is _ _ _ _ _ _ seat.1 c.requires.held,
    )
