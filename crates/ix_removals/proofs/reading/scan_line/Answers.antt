-- A line of a removal is cut at its LF and its TAB, and no other line passes.
use Rattle.std.proofs.Common.{◌≡◌, ◌∙◌, Some, None, true, false, arith, refl, sym}
use Rattle.std.proofs.lemmas.Str.Pattern.{split_parts}
use Rattle.ix_text.specs.Collections.{IsName}
use Rattle.ix_removals.proofs.LineLemmas.{inside_utf8, line_cut, line_ends, line_joined, line_split}
use Rattle.ix_removals.proofs.reading.scan_line.Goals as goal

pub returns-in_err-line-clause-none : goal.returns-in_err-line-clause-none
returns-in_err-line-clause-none c =
    rw c.from_residual.ensures (λ removal rest is. line_ends c.args.bytes.now c.in_err-line.ensures removal rest)

pub returns-in_default-clause-none : goal.returns-in_default-clause-none
returns-in_default-clause-none c = λ removal rest is joined.
    let cut = line_cut c.args.bytes.now c.in_ok-line.line.now c.in_ok-line.rest.now c.in_ok-line.ensures removal rest is joined in
    c.in_default.ensures.cases.0 (rw cut.0 (inside_utf8 removal is))

pub returns-in_err-digits-clause-none : goal.returns-in_err-digits-clause-none
returns-in_err-digits-clause-none c = rw c.from_residual-in_err-digits.ensures (λ removal rest is joined.
    let cut = line_cut c.args.bytes.now c.in_ok-line.line.now c.in_ok-line.rest.now c.in_ok-line.ensures removal rest is joined in
    line_split c.in-Ok.text.now None c.in_err-digits.ensures.cases removal is (c.in-Ok.ensures.cases.0 ∙ cut.0))

pub returns-in_err-below-clause-none : goal.returns-in_err-below-clause-none
returns-in_err-below-clause-none c = rw c.from_residual-in_err-below.ensures (λ removal rest is joined.
    let cut = line_cut c.args.bytes.now c.in_ok-line.line.now c.in_ok-line.rest.now c.in_ok-line.ensures removal rest is joined in
    let parts = line_split c.in-Ok.text.now (Some (c.in_ok-digits.digits, c.in_ok-digits.name)) c.in_ok-digits.ensures.cases removal is (c.in-Ok.ensures.cases.0 ∙ cut.0) in
    c.in_err-below.ensures.none removal.below is.some_number is.fits parts.0)

pub returns-then-is_name-clause-found : goal.returns-then-is_name-clause-found
returns-then-is_name-clause-found c =
    let parts = split_parts 9 c.in-Ok.text.now (Some (c.in_ok-digits.digits, c.in_ok-digits.name)) c.in_ok-digits.ensures.cases (omega arith) in
    let number = c.in_ok-below.ensures.found in (
      record { name = c.if-is_name.ensures.0 refl; some_number = number.0; fits = number.1 },
      line_joined c.args.bytes.now c.in_ok-line.line.now c.in_ok-line.rest.now c.in_ok-digits.digits.now c.in_ok-digits.name.now c.in_ok-below.below c.in_ok-line.ensures (sym c.in-Ok.ensures.cases.0 ∙ parts.0) number.2,
    )

pub returns-else-is_name-clause-none : goal.returns-else-is_name-clause-none
returns-else-is_name-clause-none c = λ removal rest is joined.
    let cut = line_cut c.args.bytes.now c.in_ok-line.line.now c.in_ok-line.rest.now c.in_ok-line.ensures removal rest is joined in
    let parts = line_split c.in-Ok.text.now (Some (c.in_ok-digits.digits, c.in_ok-digits.name)) c.in_ok-digits.ensures.cases removal is (c.in-Ok.ensures.cases.0 ∙ cut.0) in
    let lawful : IsName c.in_ok-digits.name.now = rw parts.1 is.name in
    let clash : false ≡ true = c.if-is_name.ensures.1 lawful in
    cc
