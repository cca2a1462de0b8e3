use Rattle.std.proofs.Common.{ap, ◌+◌, ◌∙◌, get_or}
use Rattle.ix_scan.proofs.ScanLemmas.{fails_if, kept_left_out, kept_pushed}
use Rattle.ix_live.specs.Findings.{is_kept}
use Rattle.ix_live.proofs.Among.{kept_decides}
use Rattle.ix_live.proofs.find_documents.push_kept.Goals.{then-not-is_among+in_ok-push, else-not-is_among}
use Rattle.ix_live.proofs.find_documents.push_kept.Goals as goal

pub loop-number-preserved : goal.loop-number-preserved
loop-number-preserved c =
    let removed = c.args.removed.now in
    let n = c.args.first + get_or c.args.numbers.now c.loop-number.number-index 0 in
    let decides = kept_decides removed n in
    elim c.if-not-is_among.branch [
      | then-not-is_among+in_ok-push w ↦
          ap (λ v. v.items) w.found-is ∙ w.in_ok-push.ensures.items
          ∙ kept_pushed (is_kept removed) c.args.found.now.items c.loop-number.found.items c.args.first c.args.numbers.now c.loop-number.number-index c.loop-number-test.true c.loop-number.invariant (decides.1 w.if-not-is_among.ensures)
      | else-not-is_among w ↦
          ap (λ v. v.items) w.found-is
          ∙ kept_left_out (is_kept removed) c.args.found.now.items c.loop-number.found.items c.args.first c.args.numbers.now c.loop-number.number-index c.loop-number-test.true c.loop-number.invariant
          (fails_if (is_kept removed n) decides (λ lacks. lacks w.if-not-is_among.ensures))
    ]
