use Rattle.std.proofs.Common.{rules}
use Rattle.ix_output.proofs.sink.flush.Goals as goal

-- The check finds it too; with an answer a wrong body that falls here is refused sooner.
pub returns-in-Ok : goal.returns-in-Ok
returns-in-Ok g c = search rules

-- The check finds it too; with an answer a wrong body that falls here is refused sooner.
pub returns-in-Err : goal.returns-in-Err
returns-in-Err g c = search rules
