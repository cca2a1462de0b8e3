use Rattle.ix_board.proofs.BoardLaws as laws
use Rattle.ix_board.proofs.laws.done_keeps_its_piece.Goals as goal

pub returns-clause-keeps : goal.returns-clause-keeps
returns-clause-keeps g c = laws.done_keeps_its_piece _

pub returns-clause-delivered : goal.returns-clause-delivered
returns-clause-delivered g c = laws.done_as_delivered _
