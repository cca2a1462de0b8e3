use Rattle.std.proofs.Common.{arith}
use Rattle.std.proofs.lemmas.Grind.{common_steps}
use Rattle.ix_vbyte.proofs.appending.append_code_and.Goals as goal

-- The check finds it too; with an answer a wrong body that falls here is refused sooner.
pub returns-clause-ok : goal.returns-clause-ok
returns-clause-ok c = grind (arith, common_steps)
