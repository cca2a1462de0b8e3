use Rattle.std.proofs.Common.{rules}
use Rattle.ix_run.proofs.dictionary.number_of.Goals as goal

-- The check finds it too; with an answer a wrong body that falls here is refused sooner.
pub returns-in-Some : goal.returns-in-Some
returns-in-Some c = search rules
