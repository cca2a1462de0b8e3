-- The digits of the number are before the mark, and are read as it.
use Rattle.std.proofs.Common.{◌≡◌, Some, None, Ok, Err}
use Rattle.std.proofs.lemmas.Fmt.{parse-decimal}
use Rattle.ix_manifest.proofs.ScanLemmas.{number_before_mark}
use Rattle.ix_manifest.proofs.scan.scan_number.Goals as goal

pub returns-in_default-clause-exact : goal.returns-in_default-clause-exact
returns-in_default-clause-exact c = λ number rest fits is. number_before_mark c.args.mark number c.args.text.now rest None c.in_default.ensures.cases c.requires fits is

pub returns-in_default-parse-clause-exact : goal.returns-in_default-parse-clause-exact
returns-in_default-parse-clause-exact c = λ number rest fits is.
    let parts = number_before_mark c.args.mark number c.args.text.now rest (Some (c.in-Some.digits, c.in-Some.rest)) c.in-Some.ensures.cases c.requires fits is in
    let read : c.parse.result ≡ Ok number = parse-decimal 64 number c.in-Some.digits.now c.parse.result fits fits parts.0 c.parse.ensures.value.0 in
    let not : c.parse.result ≡ Err c.in_default-parse.field-0 = c.in_default-parse.is in
    cc

pub returns-clause-exact : goal.returns-clause-exact
returns-clause-exact c = λ number rest fits is.
    let parts = number_before_mark c.args.mark number c.args.text.now rest (Some (c.in-Some.digits, c.in-Some.rest)) c.in-Some.ensures.cases c.requires fits is in
    let read : c.parse.result ≡ Ok number = parse-decimal 64 number c.in-Some.digits.now c.parse.result fits fits parts.0 c.parse.ensures.value.0 in
    let other : c.parse.result ≡ Ok c.in-Ok.number = c.in-Ok.is in
    (cc, parts.1)
