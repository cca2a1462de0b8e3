use Rattle.std.proofs.Common.{rules}
use Rattle.ix_query_text.proofs.parser.all_of.Goals as goal

-- The check finds it too; with an answer a wrong body that falls here is refused sooner.
pub returns-else-len-eq1 : goal.returns-else-len-eq1
returns-else-len-eq1 c = search rules
