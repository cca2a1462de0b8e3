use Rattle.ix_board.proofs.BoardLaws as laws
use Rattle.ix_board.proofs.laws.seen_is_not_open.Goals as goal

pub returns : goal.returns
returns g c = laws.seen_is_not_open _
