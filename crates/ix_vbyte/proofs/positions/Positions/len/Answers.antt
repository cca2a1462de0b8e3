use Rattle.ix_vbyte.proofs.Walks.{ascend_from_none}
use Rattle.ix_vbyte.proofs.positions.Positions.len.Goals as goal

pub returns-clause-ascending : goal.returns-clause-ascending
returns-clause-ascending c = ascend_from_none _ _ _ _ c.self.invariant c.self.view_is
