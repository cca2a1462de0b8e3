use Rattle.std.proofs.Common.{arith}
use Rattle.std.proofs.lemmas.Grind.{common_steps}
use Rattle.ix_run.proofs.coded_terms.append_term.Goals as goal

-- The check finds it too; with an answer a wrong body that falls here is refused sooner.
pub returns-clause-pushed : goal.returns-clause-pushed
returns-clause-pushed c = grind (arith, common_steps)
