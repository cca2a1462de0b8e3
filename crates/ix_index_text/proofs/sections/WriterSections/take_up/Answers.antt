use Rattle.std.proofs.Common.{rules}
use Rattle.ix_index_text.proofs.sections.WriterSections.take_up.Goals as goal

-- The check finds it too; with an answer a wrong body that falls here is refused sooner.
pub returns-in-None-clause-set : goal.returns-in-None-clause-set
returns-in-None-clause-set c = search rules

-- The check finds it too; with an answer a wrong body that falls here is refused sooner.
pub returns-in-Some-clause-set : goal.returns-in-Some-clause-set
returns-in-Some-clause-set c = search rules
