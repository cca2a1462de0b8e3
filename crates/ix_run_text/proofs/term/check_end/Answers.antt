use Rattle.std.proofs.Common.{rules}
use Rattle.ix_run_text.proofs.term.check_end.Goals as goal

-- The check finds it too; with an answer a wrong body that falls here is refused sooner.
pub returns-in-Some-clause-taken : goal.returns-in-Some-clause-taken
returns-in-Some-clause-taken g c = search rules

-- The check finds it too; with an answer a wrong body that falls here is refused sooner.
pub returns-in-Some-clause-end : goal.returns-in-Some-clause-end
returns-in-Some-clause-end g c = search rules
