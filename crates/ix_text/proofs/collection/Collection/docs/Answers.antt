use Rattle.std.proofs.Common.{rules}
use Rattle.ix_text.proofs.collection.Collection.docs.Goals as goal

-- The check finds it too; with an answer a wrong body that falls here is refused sooner.
pub returns-clause-documents : goal.returns-clause-documents
returns-clause-documents c = search rules
