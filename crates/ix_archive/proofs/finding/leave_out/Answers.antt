use Rattle.ix_archive.proofs.LeftLemmas.{left_gone, left_kept}
use Rattle.ix_archive.proofs.finding.leave_out.Goals as goal
use Rattle.ix_archive.proofs.finding.leave_out.Goals.{then-not-is_gone+in_ok-push, else-not-is_gone}

pub loop-number-preserved : goal.loop-number-preserved
loop-number-preserved c =
    let within = c.loop-number-test.true in
    elim c.if-not-is_gone.branch [
      | then-not-is_gone+in_ok-push w ↦
          rw (w.left-is, w.in_ok-push.ensures.items) (left_kept _ _ _ _ _ within c.loop-number.invariant (rw w.if-not-is_gone.true at c.is_gone.ensures) (c.requires c.loop-number.number-index 0 within))
      | else-not-is_gone w ↦ rw w.left-is (left_gone _ _ _ _ _ within c.loop-number.invariant (rw w.if-not-is_gone.false at c.is_gone.ensures))
    ]
