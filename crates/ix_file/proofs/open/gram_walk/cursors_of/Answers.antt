use Rattle.std.proofs.Common.{◌<◌, [], length, inr, arith}
use Rattle.ix_file.specs.GramWalks.{HasRead}
use Rattle.ix_file.proofs.GramWalking.{have_more}
use Rattle.ix_file.proofs.open.gram_walk.cursors_of.Goals as goal

pub returns-in_default-clause-refused : goal.returns-in_default-clause-refused
returns-in_default-clause-refused c =
    let low : c.loop-row.row-index < length c.args.rows.now = omega (arith, c.loop-row-test.true) in
    inr (λ terms texts right. c.in_default.ensures.none terms texts (right c.loop-row.row-index _ low))

pub loop-row-preserved : goal.loop-row-preserved
loop-row-preserved c side terms on =
    let low : c.loop-row.row-index < length c.args.rows.now = omega (arith, c.loop-row-test.true) in
    rw c.in_ok-push.ensures.items
    (have_more (HasRead side terms c.args.section.now 0 []) c.args.rows.now c.loop-row.cursors.items c.loop-row.row-index _ c.in-Some.cursor low (c.loop-row.invariant side terms on)
    (c.in-Some.ensures.some side terms (on c.loop-row.row-index _ low)))
