use Rattle.ix_vbyte.proofs.Walks.{are_from_none}
use Rattle.ix_vbyte.proofs.cursor.Postings.len.Goals as goal

pub returns-clause-lawful : goal.returns-clause-lawful
returns-clause-lawful c = are_from_none _ _ _ _ c.self.invariant.0 c.self.view_is
