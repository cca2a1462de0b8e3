use Rattle.std.proofs.Common.{◌<◌, ◌≤◌, ◌/◌, ◌^◌, length, ap, sym, subst, arith}
use Rattle.std.proofs.lemmas.Int.Digits.{length-digits_of-le}
use Rattle.ix_vbyte.specs.Code.{IsCode, code_of}
use Rattle.ix_vbyte.proofs.Values.{IsCode-code_of, length-code_of}
use Rattle.ix_vbyte.proofs.encoding.encode.Goals as goal

pub push_digit-requires-2-clause-room : goal.push_digit-requires-2-clause-room
push_digit-requires-2-clause-room c = omega (arith, ap length c.push_digit.ensures, length-digits_of-le 128 1 (c.args.n / 2 ^ 28) (omega arith) (omega arith))

pub push_digit-requires-3-clause-room : goal.push_digit-requires-3-clause-room
push_digit-requires-3-clause-room c = omega (arith, ap length c.push_digit-2.ensures, length-digits_of-le 128 2 (c.args.n / 2 ^ 21) (omega arith) (omega arith))

pub push_digit-requires-4-clause-room : goal.push_digit-requires-4-clause-room
push_digit-requires-4-clause-room c = omega (arith, ap length c.push_digit-3.ensures, length-digits_of-le 128 3 (c.args.n / 2 ^ 14) (omega arith) (omega arith))

pub push-requires : goal.push-requires
push-requires c = omega (arith, ap length c.push_digit-4.ensures, length-digits_of-le 128 4 (c.args.n / 128) (omega arith) (omega arith))

pub returns-clause-value : goal.returns-clause-value
unfolding code_of
returns-clause-value c = cc

pub returns-clause-is_code : goal.returns-clause-is_code
returns-clause-is_code c = subst (IsCode c.args.n) (sym (returns-clause-value c)) (IsCode-code_of c.args.n c.ranges.n.fits)

pub returns-clause-size : goal.returns-clause-size
returns-clause-size c = subst (λ bytes. (0 < length bytes) × (length bytes ≤ 5)) (sym (returns-clause-value c)) (length-code_of c.args.n c.ranges.n.fits)
