use Rattle.std.proofs.Common.{arith}
use Rattle.std.proofs.lemmas.Grind.{common_steps}
use Rattle.ix_file.proofs.index.Index.doc_count.Goals as goal

-- The check finds it too; with an answer a wrong body that falls here is refused sooner.
pub returns-clause-count : goal.returns-clause-count
returns-clause-count c = grind (arith, common_steps)
