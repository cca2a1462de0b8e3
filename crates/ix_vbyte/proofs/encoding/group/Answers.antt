use Rattle.std.proofs.Common.{rules}
use Rattle.ix_vbyte.proofs.encoding.group.Goals as goal

-- The check finds it too; with an answer a wrong body that falls here is refused sooner.
pub returns : goal.returns
returns c = search rules
