use Rattle.ix_board.proofs.DeskEnds as ends
use Rattle.ix_board.proofs.laws.finished_by_desks.Goals as goal

pub returns-clause-none_held : goal.returns-clause-none_held
returns-clause-none_held g c = ends.none_held_at_the_end _

pub returns-clause-finished : goal.returns-clause-finished
returns-clause-finished g c = ends.finished_by_desks _
