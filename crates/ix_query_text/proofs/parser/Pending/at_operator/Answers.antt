use Rattle.std.proofs.Common.{rules}
use Rattle.ix_query_text.proofs.parser.Pending.at_operator.Goals as goal

-- The check finds it too; with an answer a wrong body that falls here is refused sooner.
pub returns-in-And : goal.returns-in-And
returns-in-And c = search rules
