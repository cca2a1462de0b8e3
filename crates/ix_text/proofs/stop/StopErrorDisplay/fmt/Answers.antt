use Rattle.std.proofs.Common.{rules}
use Rattle.ix_text.proofs.stop.StopErrorDisplay.fmt.Goals as goal

-- The check finds it too; with an answer a wrong body that falls here is refused sooner.
pub returns-in-LongWord-clause-writes : goal.returns-in-LongWord-clause-writes
returns-in-LongWord-clause-writes g c = search rules
