use Rattle.std.proofs.Common.{◌∷◌, sym, ap, ◌∙◌, arith}
use Rattle.std.specs.Prelude.{Some}
use Rattle.ix_board.specs.Desks.{BoardView}
use Rattle.ix_board.proofs.BoardCalls.{delivers_at}
use Rattle.ix_board.proofs.board.Board.finish_place.Goals as goal

pub compare_exchange-requires : goal.compare_exchange-requires
compare_exchange-requires g c =
    let seat = c.requires.seat in
    let before = c.exchange-before.ensures in
    let count = ap (λ (b : BoardView). b.count) c.self.view_is in (
      before.0 ∙ (seat.0 ∙ sym (ap (λ (b : BoardView). b.table) c.self.view_is)),
      omega (arith, count, c.self.invariant.0, c.requires.place),
      delivers_at _ _ c.self.view_is _ _ _ _ _ c.args.piece _ (before.3 ∙ (λ i. ((seat.1 i).0, (c.args.place, Some c.args.piece) ∷ Rattle.atomic_table.specs.Table.rest (seat.1 i).1))) c.requires.held,
    )
