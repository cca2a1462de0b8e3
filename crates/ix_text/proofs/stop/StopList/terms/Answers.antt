use Rattle.std.proofs.Common.{rules}
use Rattle.ix_text.proofs.stop.StopList.terms.Goals as goal

-- The check finds it too; with an answer a wrong body that falls here is refused sooner.
pub returns-clause-value : goal.returns-clause-value
returns-clause-value c = search rules
