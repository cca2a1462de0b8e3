use Rattle.std.proofs.Common.{◌<◌, ◌≤◌, length, sym, subst, IsUtf8, ⊎_elim, arith}
use Rattle.std.proofs.lemmas.Result.{err_from_is_err_and}
use Rattle.ix_file.proofs.FrontLemmas.{counted_split, cut_text, too_few}
use Rattle.ix_file.proofs.open.front.read_text.Goals as goal

pub returns-then-count-eq0-clause-refused : goal.returns-then-count-eq0-clause-refused
returns-then-count-eq0-clause-refused c text rest is e =
    let split = counted_split c.args.bytes.now c.in_ok-count.count c.in_ok-count.rest.now text rest c.in_ok-count.ensures.found.1 e in
    let some : 0 < length text = is.some_byte in
    let short : length text ≤ 255 = is.short in
    ⊎_elim (λ none. omega (arith, none, split.0)) (λ long. omega (arith, long, split.0)) c.then-count-eq0.either

pub returns-in_err-text-clause-refused : goal.returns-in_err-text-clause-refused
returns-in_err-text-clause-refused c =
    let p = err_from_is_err_and c.from_residual-in_err-text.result c.from_residual-in_err-text.ensures.1 in
    rw p.1
    (λ text rest is e.
    too_few c.args.bytes.now c.in_ok-count.count c.in_ok-count.rest.now text rest c.in_ok-count.ensures.found.1 c.in_err-text.ensures.fault.1 e)

pub returns-in_default-clause-refused : goal.returns-in_default-clause-refused
returns-in_default-clause-refused c text rest is e =
    let same = cut_text c.args.bytes.now c.in_ok-count.count c.in_ok-count.rest.now c.in_ok-text.text.now c.in_ok-text.rest.now text rest c.in_ok-count.ensures.found.1 c.in_ok-text.ensures.found.0 c.in_ok-text.ensures.found.1 e in
    c.in_default.ensures.cases.0 (subst IsUtf8 (sym same) is.text)
