use Rattle.std.proofs.Common.{rules}
use Rattle.ix_vbyte.proofs.cursor.Postings.again.Goals as goal

-- The check finds it too; with an answer a wrong body that falls here is refused sooner.
pub invariant_of-result : goal.invariant_of-result
invariant_of-result c = search rules

-- The check finds it too; with an answer a wrong body that falls here is refused sooner.
pub returns : goal.returns
returns c = search rules
