use Rattle.std.proofs.Common.{arith}
use Rattle.ix_vbyte.proofs.Fronts.{reads_one, reads_two}
use Rattle.ix_vbyte.proofs.decoding.first_number.Goals as goal

pub returns-then-first-ge128 : goal.returns-then-first-ge128
returns-then-first-ge128 c = reads_one c.args.bytes.now _ (omega arith) c.if-first-ge128.true (omega (arith, (c.type_inv.bytes 0).fits)) (omega arith)

pub returns-then-second-ge128 : goal.returns-then-second-ge128
returns-then-second-ge128 c = reads_two c.args.bytes.now _ c.requires (omega arith) c.if-first-ge128.false c.if-second-ge128.true (omega (arith, (c.type_inv.bytes 1).fits)) (omega arith)
