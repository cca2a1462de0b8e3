-- The digits of the digest are before the LF, and are read as it.
use Rattle.std.proofs.Common.{◌≡◌, ◌∙◌, ap, Some, None, Ok, Err}
use Rattle.hex.specs.Hex.{decode_sized}
use Rattle.ix_manifest.proofs.ScanLemmas.{digest_before_feed, digest_of_digits}
use Rattle.ix_manifest.proofs.scan.scan_digest.Goals as goal

pub returns-in_default-clause-exact : goal.returns-in_default-clause-exact
returns-in_default-clause-exact c = λ digest rest size octets is. digest_before_feed digest c.args.text.now rest None c.in_default.ensures.cases octets is

pub returns-in_default-from_hex-clause-exact : goal.returns-in_default-from_hex-clause-exact
returns-in_default-from_hex-clause-exact c = λ digest rest size octets is.
    let parts = digest_before_feed digest c.args.text.now rest (Some (c.in-Some.digits, c.in-Some.rest)) c.in-Some.ensures.cases octets is in
    let read : c.from_hex.result ≡ Ok digest = c.from_hex.ensures ∙ ap (λ digits. decode_sized digits 32) parts.0 ∙ digest_of_digits digest size octets in
    let not : c.from_hex.result ≡ Err c.in_default-from_hex.field-0 = c.in_default-from_hex.is in
    cc

pub returns-clause-exact : goal.returns-clause-exact
returns-clause-exact c = λ digest rest size octets is.
    let parts = digest_before_feed digest c.args.text.now rest (Some (c.in-Some.digits, c.in-Some.rest)) c.in-Some.ensures.cases octets is in
    let read : c.from_hex.result ≡ Ok digest = c.from_hex.ensures ∙ ap (λ digits. decode_sized digits 32) parts.0 ∙ digest_of_digits digest size octets in
    let other : c.from_hex.result ≡ Ok c.in-Ok.digest = c.in-Ok.is in
    (cc, parts.1)
