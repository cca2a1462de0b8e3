use Rattle.std.proofs.Common.{arith}
use Rattle.std.proofs.lemmas.Grind.{common_steps}
use Rattle.ix_query_text.proofs.parser.under_nots.Goals as goal

-- The check finds it too; with an answer a wrong body that falls here is refused sooner.
pub loop-frames-preserved : goal.loop-frames-preserved
loop-frames-preserved c = grind (arith, common_steps)
