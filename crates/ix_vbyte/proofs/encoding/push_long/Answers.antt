use Rattle.std.proofs.Common.{rules}
use Rattle.ix_vbyte.proofs.Widths.{widths}
use Rattle.ix_vbyte.proofs.encoding.push_long.Goals as goal

-- The check finds it too; with an answer a wrong body that falls here is refused sooner.
pub returns-then-n-clause-ok : goal.returns-then-n-clause-ok
returns-then-n-clause-ok c = search (rules, widths)
