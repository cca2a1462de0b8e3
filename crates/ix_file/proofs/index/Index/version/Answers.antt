use Rattle.std.proofs.Common.{rules}
use Rattle.ix_file.proofs.index.Index.version.Goals as goal

-- The check finds it too; with an answer a wrong body that falls here is refused sooner.
pub returns-in-Plain : goal.returns-in-Plain
returns-in-Plain c = search rules

-- The check finds it too; with an answer a wrong body that falls here is refused sooner.
pub returns-in-FrontCoded : goal.returns-in-FrontCoded
returns-in-FrontCoded c = search rules
