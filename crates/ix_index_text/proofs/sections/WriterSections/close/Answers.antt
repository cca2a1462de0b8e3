use Rattle.std.proofs.Common.{rules}
use Rattle.ix_index_text.proofs.sections.WriterSections.close.Goals as goal

-- The check finds it too; with an answer a wrong body that falls here is refused sooner.
pub returns-clause-closed : goal.returns-clause-closed
returns-clause-closed c = search rules
