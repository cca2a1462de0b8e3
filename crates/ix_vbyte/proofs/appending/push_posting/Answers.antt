use Rattle.std.proofs.Common.{rules}
use Rattle.ix_vbyte.proofs.appending.push_posting.Goals as goal

-- The check finds it too; with an answer a wrong body that falls here is refused sooner.
pub returns-then-is_err-clause-err : goal.returns-then-is_err-clause-err
returns-then-is_err-clause-err c = search rules
