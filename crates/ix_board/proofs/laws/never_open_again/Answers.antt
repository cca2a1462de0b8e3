use Rattle.ix_board.proofs.BoardLaws as laws
use Rattle.ix_board.proofs.laws.never_open_again.Goals as goal

pub returns : goal.returns
returns g c = laws.never_open_again _
