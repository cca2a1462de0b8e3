use Rattle.ix_board.proofs.Closings.{ends_at}
use Rattle.ix_board.proofs.board.Board.into_closed.Goals as goal

pub returns-clause-ends : goal.returns-clause-ends
returns-clause-ends g c = ends_at _ _ c.self.view_is _ _ _ _ (λ i. (c.requires.seat.1 i).0) c.requires.all c.requires.idle c.close_with.ensures.values.2
