use Rattle.std.proofs.Common.{rules}
use Rattle.ix_text.proofs.stop.StopError.number.Goals as goal

-- The check finds it too; with an answer a wrong body that falls here is refused sooner.
pub returns-in-NotOneWord : goal.returns-in-NotOneWord
returns-in-NotOneWord c = search rules
