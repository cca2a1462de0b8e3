use Rattle.std.proofs.Common.{rules}
use Rattle.ix_query_text.proofs.error.QueryErrorDisplay.fmt.Goals as goal

-- The check finds it too; with an answer a wrong body that falls here is refused sooner.
pub returns-in-OpenQuote-clause-writes : goal.returns-in-OpenQuote-clause-writes
returns-in-OpenQuote-clause-writes g c = search rules
