use Rattle.std.proofs.lemmas.Bool.{iff_false}
use Rattle.ix_text.specs.Docs.{named_text}
use Rattle.ix_query.proofs.ScanLemmas.{scan_yes, scan_no, scan_of_all, at_document}
use Rattle.ix_query.proofs.scans.scan.Goals as goal
use Rattle.ix_query.proofs.scans.scan.Goals.{then-satisfies+in_ok-push, else-satisfies}

pub loop-number-preserved : goal.loop-number-preserved
loop-number-preserved c =
    let told = rw (c.deref.ensures.value, c.in_ok-count.ensures.front, c.tree.ensures.same) at c.satisfies.ensures in
    let here = at_document c.args.stop.now named_text c.args.documents.now c.loop-number.number c.index-documents-number.result c.args.query.now c.loop-number-test.true c.index-documents-number.is in
    elim c.if-satisfies.branch [
      | then-satisfies+in_ok-push w ↦
          rw (w.found-is, w.in_ok-push.ensures.items) (scan_yes _ _ _ _ (here.1 (told.0 w.if-satisfies.true)) c.loop-number.invariant)
      | else-satisfies w ↦
          rw w.found-is (scan_no _ _ _ _ (λ h. iff_false told w.if-satisfies.false (here.0 h)) c.loop-number.invariant)
    ]

pub returns : goal.returns
returns c = scan_of_all c.args.stop.now named_text c.args.documents.now c.args.query.now _ _ c.loop-number-test.false c.loop-number.invariant
