use Rattle.ix_archive.proofs.PartLemmas.{checked_sum, joined_more}
use Rattle.ix_archive.proofs.searching.join_parts.Goals as goal

pub loop-part-preserved : goal.loop-part-preserved
loop-part-preserved c =
    rw (c.in_ok-extend_from_slice-in-Ok.ensures.items, c.deref.ensures.value, checked_sum _ _ _ _ _ c.checked_add.ensures c.in_ok-count-in-Ok.ensures.value)
    (joined_more c.args.parts.now c.loop-part.part-index c.part-item.result c.in-Ok.lines _ _ c.loop-part-test.true c.part-item.is c.in-Ok.is c.loop-part.invariant)
