use Rattle.std.proofs.Common.{rules}
use Rattle.ix_vbyte.proofs.Fronts.{read_more, read_code, read_big, reads}
use Rattle.ix_vbyte.proofs.decoding.read.Goals as goal

pub returns-then-number : goal.returns-then-number
returns-then-number c = search (rules, read_big)

pub returns-then-byte-ge128 : goal.returns-then-byte-ge128
returns-then-byte-ge128 c = search (rules, read_code)

pub loop-place-preserved : goal.loop-place-preserved
loop-place-preserved c = search (rules, read_more)

-- The check finds it too; with an answer a wrong body that falls here is refused sooner.
pub returns : goal.returns
returns c = search (rules, reads)

-- The check finds it too; with an answer a wrong body that falls here is refused sooner.
pub loop-place-init : goal.loop-place-init
loop-place-init c = search (rules, reads)
