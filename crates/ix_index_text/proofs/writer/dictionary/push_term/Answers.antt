use Rattle.std.proofs.Common.{rules, arith}
use Rattle.std.proofs.lemmas.Grind.{common_steps}
use Rattle.ix_index_text.proofs.writer.dictionary.push_term.Goals as goal

-- The check finds it too; with an answer a wrong body that falls here is refused sooner.
pub returns-then-is_multiple_of : goal.returns-then-is_multiple_of
returns-then-is_multiple_of c = search rules

-- The check finds it too; with an answer a wrong body that falls here is refused sooner.
pub returns : goal.returns
returns c = grind (arith, common_steps)
