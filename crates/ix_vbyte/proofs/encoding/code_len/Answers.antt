use Rattle.std.proofs.Common.{ap, sym, length, arith}
use Rattle.ix_vbyte.proofs.Widths.{code_of_1, code_of_2, code_of_3, code_of_4, code_of_5}
use Rattle.ix_vbyte.proofs.encoding.code_len.Goals as goal

pub returns-in-0-to-127-clause-value : goal.returns-in-0-to-127-clause-value
returns-in-0-to-127-clause-value c = sym (ap length (code_of_1 c.args.n (omega arith)))

pub returns-in-128-to-16383-clause-value : goal.returns-in-128-to-16383-clause-value
returns-in-128-to-16383-clause-value c = sym (ap length (code_of_2 c.args.n (omega arith) (omega arith)))

pub returns-in-16384-to-2097151-clause-value : goal.returns-in-16384-to-2097151-clause-value
returns-in-16384-to-2097151-clause-value c = sym (ap length (code_of_3 c.args.n (omega arith) (omega arith)))

pub returns-in-2097152-to-268435455-clause-value : goal.returns-in-2097152-to-268435455-clause-value
returns-in-2097152-to-268435455-clause-value c = sym (ap length (code_of_4 c.args.n (omega arith) (omega arith)))

pub returns-in_default-clause-value : goal.returns-in_default-clause-value
returns-in_default-clause-value c = sym (ap length (code_of_5 c.args.n (omega arith) (omega arith)))
