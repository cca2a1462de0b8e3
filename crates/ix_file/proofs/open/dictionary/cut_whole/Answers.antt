use Rattle.std.proofs.Common.{◌<◌, ◌≤◌, length, ⊎_elim, arith}
use Rattle.std.proofs.lemmas.Result.{err_from_is_err_and}
use Rattle.ix_file.proofs.FrontLemmas.{counted_split, too_few}
use Rattle.ix_file.proofs.open.dictionary.cut_whole.Goals as goal

pub returns-then-size-eq0-clause-refused : goal.returns-then-size-eq0-clause-refused
returns-then-size-eq0-clause-refused c term rest has e =
    let split = counted_split c.args.left.now c.in_ok-size.size c.in_ok-size.bytes.now term rest c.in_ok-size.ensures.found.1 e in
    let some : 0 < length term = has.some_byte in
    let short : length term ≤ 255 = has.short in
    ⊎_elim (λ none. omega (arith, none, split.0)) (λ long. omega (arith, long, split.0)) c.then-size-eq0.either

pub returns-in_err-own-clause-refused : goal.returns-in_err-own-clause-refused
returns-in_err-own-clause-refused c =
    let p = err_from_is_err_and c.from_residual-in_err-own.result c.from_residual-in_err-own.ensures.1 in
    rw p.1
    (λ term rest has e.
    too_few c.args.left.now c.in_ok-size.size c.in_ok-size.bytes.now term rest c.in_ok-size.ensures.found.1 c.in_err-own.ensures.fault.1 e)
