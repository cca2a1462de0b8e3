use Rattle.std.proofs.Common.{rules}
use Rattle.ix_text.proofs.collection.CollectionError.number.Goals as goal

-- The check finds it too; with an answer a wrong body that falls here is refused sooner.
pub returns-in-Name : goal.returns-in-Name
returns-in-Name c = search rules
