-- Digits without a leading zero or a sign are those of one number.
use Rattle.std.proofs.Common.{◌≡◌, Ok, Err, true, false, refl}
use Rattle.std.specs.Int.{IsInRange}
use Rattle.std.specs.Prelude.{slice_index}
use Rattle.std.proofs.lemmas.Fmt.{parse-decimal}
use Rattle.ix_removals.proofs.LineLemmas.{first_digit, number_read}
use Rattle.ix_removals.proofs.reading.scan_number.Goals as goal

pub returns-in_default-clause-none : goal.returns-in_default-clause-none
returns-in_default-clause-none c = λ number some fits is.
    let read : c.parse.result ≡ Ok number = parse-decimal 64 number c.args.digits.now c.parse.result fits fits is c.parse.ensures.value.0 in
    let not : c.parse.result ≡ Err c.in_default.field-0 = c.in_default.is in
    cc

pub returns-then-begins_with_digit-clause-found : goal.returns-then-begins_with_digit-clause-found
returns-then-begins_with_digit-clause-found c = number_read c.args.digits.now c.parse.result c.in-Ok.number c.parse.ensures.value.0 c.in-Ok.is (c.if-begins_with_digit.ensures.0 refl)

pub returns-else-begins_with_digit-clause-none : goal.returns-else-begins_with_digit-clause-none
returns-else-begins_with_digit-clause-none c = λ number some fits is.
    let first : IsInRange 49 57 (slice_index c.args.digits.now 0) = rw is (first_digit number some fits) in
    let clash : false ≡ true = c.if-begins_with_digit.ensures.1 first in
    cc
