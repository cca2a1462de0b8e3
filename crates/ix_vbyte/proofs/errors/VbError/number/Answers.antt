use Rattle.std.proofs.Common.{rules}
use Rattle.ix_vbyte.proofs.errors.VbError.number.Goals as goal

-- The check finds it too; with an answer a wrong body that falls here is refused sooner.
pub returns-in-Cut : goal.returns-in-Cut
returns-in-Cut c = search rules
