use Rattle.std.proofs.Common.{rules}
use Rattle.ix_index_text.proofs.windows.WindowsIterator.next.Goals as goal

-- The check finds it too; with an answer a wrong body that falls here is refused sooner.
pub returns-clause-steps : goal.returns-clause-steps
returns-clause-steps c = search rules
