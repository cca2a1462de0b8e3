use Rattle.std.proofs.Common.{rules}
use Rattle.ix_vbyte.proofs.cursor.Posting.read_positions.Goals as goal

-- The check finds it too; with an answer a wrong body that falls here is refused sooner.
pub loop-position-init : goal.loop-position-init
loop-position-init c = search rules
