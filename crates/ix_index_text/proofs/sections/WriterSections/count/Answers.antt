use Rattle.std.proofs.Common.{rules}
use Rattle.ix_index_text.proofs.sections.WriterSections.count.Goals as goal

-- The check finds it too; with an answer a wrong body that falls here is refused sooner.
pub returns-clause-counted : goal.returns-clause-counted
returns-clause-counted c = search rules
