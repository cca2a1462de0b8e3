use Rattle.ix_board.proofs.BoardLaws as laws
use Rattle.ix_board.proofs.laws.held_by_one.Goals as goal

pub returns-clause-own_steps_tell : goal.returns-clause-own_steps_tell
returns-clause-own_steps_tell g c = laws.own_steps_tell _

pub returns-clause-one : goal.returns-clause-one
returns-clause-one g c = laws.held_by_one _
