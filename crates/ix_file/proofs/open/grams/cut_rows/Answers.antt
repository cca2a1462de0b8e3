use Rattle.std.proofs.Common.{◌≡◌, ◌<◌, length, inr, arith}
use Rattle.std.proofs.lemmas.Bool.Decides.{nat_tests}
use Rattle.std.proofs.lemmas.Result.{err_from_is_err_and}
use Rattle.ix_file.proofs.GramCutting.{nothing_cut, no_next_entry, cut_above, more_cut, all_cut}
use Rattle.ix_file.proofs.open.grams.cut_rows.Goals as goal

pub loop-left-init : goal.loop-left-init
loop-left-init c = rw c.new-rows.ensures.items (nothing_cut c.args.section.now)

pub returns-in_err-row-clause-refused : goal.returns-in_err-row-clause-refused
returns-in_err-row-clause-refused c =
    let p = err_from_is_err_and c.from_residual.result c.from_residual.ensures.1 in
    let some : 0 < length c.loop-left.left.now = grind (arith, nat_tests, c.is_empty.ensures, c.loop-left-test.true) in
    rw p.1
    (inr
    (λ grams listed up same.
    no_next_entry c.args.section.now c.loop-left.rows.items c.loop-left.left.now c.loop-left.invariant some grams listed same c.in_err-row.ensures.refused))

pub returns-then-not-is_above-clause-refused : goal.returns-then-not-is_above-clause-refused
returns-then-not-is_above-clause-refused c =
    let some : 0 < length c.loop-left.left.now = grind (arith, nat_tests, c.is_empty.ensures, c.loop-left-test.true) in
    let before = rw c.deref.ensures.value at c.last.ensures.value in
    inr
    (λ grams listed up same.
    let above = cut_above c.args.section.now c.loop-left.rows.items c.loop-left.left.now c.loop-left.invariant some grams listed same c.in_ok-row.row c.in_ok-row.rest.now c.in_ok-row.ensures.cut up c.last.result before in
    let t = c.is_above.ensures.1 above in
    let f = c.if-not-is_above.true in
    absurd cc)

pub loop-left-preserved : goal.loop-left-preserved
loop-left-preserved c =
    let some : 0 < length c.loop-left.left.now = grind (arith, nat_tests, c.is_empty.ensures, c.loop-left-test.true) in
    let before = rw c.deref.ensures.value at c.last.ensures.value in
    rw c.in_ok-push.ensures.items
    (more_cut c.args.section.now c.loop-left.rows.items c.loop-left.left.now c.loop-left.invariant some c.in_ok-row.row c.in_ok-row.rest.now c.last.result before c.in_ok-row.ensures.cut
    (c.is_above.ensures.0 c.if-not-is_above.false))

pub returns-clause-cut : goal.returns-clause-cut
returns-clause-cut c =
    let nothing : length c.loop-left.left.now ≡ 0 = grind (arith, nat_tests, c.is_empty.ensures, c.loop-left-test.false) in
    all_cut c.args.section.now c.loop-left.rows.items c.loop-left.left.now c.loop-left.invariant nothing
