-- What is not read, is too great or is written otherwise is no number of a document.
use Rattle.std.proofs.Common.{◌≡◌, ◌≢◌, ◌∙◌, rules, sym}
use Rattle.std.specs.Prelude.{decimal}
use Rattle.ix_script.proofs.LineLemmas.{not_read, otherwise_written, too_great}
use Rattle.ix_script.proofs.read.read_number.Goals as goal

pub returns-in_default : goal.returns-in_default
returns-in_default c = not_read c.args.digits.now c.parse.result _ c.parse.ensures.value.0 c.in_default.is

pub returns-then-number-ge-NUMBERS : goal.returns-then-number-ge-NUMBERS
returns-then-number-ge-NUMBERS c = too_great c.args.digits.now c.parse.result c.in-Ok.number c.parse.ensures.value.0 c.in-Ok.is c.if-number-ge-NUMBERS.true

pub returns-then-ne : goal.returns-then-ne
returns-then-ne c =
    let differs : c.args.digits.now ≢ decimal c.in-Ok.number = λ same. let clash : c.as_str.result.now ≡ c.args.digits.now = c.as_str.ensures.value ∙ c.in_ok-shown.ensures.ok ∙ sym same in search rules in
    otherwise_written c.args.digits.now c.parse.result c.in-Ok.number c.parse.ensures.value.0 c.in-Ok.is differs
