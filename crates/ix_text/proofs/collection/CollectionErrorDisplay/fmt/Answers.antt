use Rattle.std.proofs.Common.{rules}
use Rattle.ix_text.proofs.collection.CollectionErrorDisplay.fmt.Goals as goal

-- The check finds it too; with an answer a wrong body that falls here is refused sooner.
pub returns-in-NoLineEnd-clause-writes : goal.returns-in-NoLineEnd-clause-writes
returns-in-NoLineEnd-clause-writes g c = search rules
