use Rattle.std.proofs.Common.{arith}
use Rattle.std.proofs.lemmas.Grind.{common_steps}
use Rattle.ix_query_text.proofs.lexeme.keep.Goals as goal

-- The check finds it too; with an answer a wrong body that falls here is refused sooner.
pub returns-in_ok-push-clause-kept : goal.returns-in_ok-push-clause-kept
returns-in_ok-push-clause-kept c = grind (arith, common_steps)
