use Rattle.std.proofs.Common.{rules}
use Rattle.ix_vbyte.proofs.cursor.Postings.seek.Goals as goal

-- The check finds it too; with an answer a wrong body that falls here is refused sooner.
pub loop-posting-preserved : goal.loop-posting-preserved
loop-posting-preserved c = search rules
