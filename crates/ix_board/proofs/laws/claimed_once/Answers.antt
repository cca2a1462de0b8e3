use Rattle.ix_board.proofs.BoardLaws as laws
use Rattle.ix_board.proofs.laws.claimed_once.Goals as goal

pub returns : goal.returns
returns g c = laws.claimed_once _
