use Rattle.std.proofs.Common.{arith}
use Rattle.ix_postings.proofs.NumberLemmas.{fault_cut, fault_found, number_is}
use Rattle.ix_postings.proofs.numbers.long_number.Goals as goal

pub returns-in-Ok-eq0-default-clause-accepted : goal.returns-in-Ok-eq0-default-clause-accepted
returns-in-Ok-eq0-default-clause-accepted c number missing rest some fits e =
    let is = number_is c.args.bytes.now missing _ _ number rest c.in-Ok-eq0-default.ensures.front e in
    absurd (omega (arith, is.0, some, c.in-Ok-eq0-default.field-0-0-is))

pub returns-in-Ok-clause-accepted : goal.returns-in-Ok-clause-accepted
returns-in-Ok-clause-accepted c number missing rest some fits e = number_is c.args.bytes.now missing _ _ number rest c.in-Ok.ensures.front e

pub returns-in-Err-clause-accepted : goal.returns-in-Err-clause-accepted
returns-in-Err-clause-accepted c number missing rest some fits e =
    fault_cut c.args.bytes.now missing number rest c.in-Err.fault fits e (fault_found c.args.bytes.now c.in-Err.fault c.in-Err.ensures.leading_zero.0 c.in-Err.ensures.too_big.0 c.in-Err.ensures.cut.0)
