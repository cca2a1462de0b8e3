use Rattle.std.proofs.Common.{rules}
use Rattle.ix_query.proofs.answers.near.has_close.Goals as goal

-- The check finds it too; with an answer a wrong body that falls here is refused sooner.
pub returns-then-one-other : goal.returns-then-one-other
returns-then-one-other c = search rules

-- The check finds it too; with an answer a wrong body that falls here is refused sooner.
pub returns-else-one-other : goal.returns-else-one-other
returns-else-one-other c = search rules
