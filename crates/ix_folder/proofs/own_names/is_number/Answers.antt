use Rattle.std.proofs.Common.{arith}
use Rattle.ix_folder.proofs.Naming.{high_number, low_number}
use Rattle.ix_folder.proofs.own_names.is_number.Goals as goal

pub returns-then-first_byte-gt48 : goal.returns-then-first_byte-gt48
returns-then-first_byte-gt48 c = high_number c.args.text.now c.parse.result c.parse.ensures.value.0 (omega (arith, c.first_byte.ensures, c.if-first_byte-gt48.true)) c.is_ok.result c.is_ok.ensures.value

pub returns : goal.returns
returns c = low_number c.args.text.now (omega (arith, c.first_byte.ensures, c.if-first_byte-gt48.false)) c.eq.result c.eq.ensures
