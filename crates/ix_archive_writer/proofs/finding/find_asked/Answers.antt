use Rattle.std.proofs.Common.{arith}
use Rattle.ix_archive_writer.proofs.FindingLemmas.{all_taken, more_taken, none_taken}
use Rattle.ix_archive_writer.proofs.finding.find_asked.Goals as goal

pub loop-segment-init : goal.loop-segment-init
loop-segment-init g c = record {
  small = omega arith;
  taken = λ honest. rw c.new-taken.ensures.items (none_taken c.args.asked.now c.args.removed.now c.args.folder.now (g.F.Files.view c.args.files.now).slots c.args.segments.now _ (cc));
}

pub loop-segment-preserved : goal.loop-segment-preserved
loop-segment-preserved g c = record {
  small = c.in_ok-next.ensures.small;
  taken = λ honest.
      more_taken c.args.asked.now c.args.removed.now c.args.folder.now (g.F.Files.view c.args.files.now).slots c.args.segments.now c.loop-segment.segment-index _ _ _ _ _ c.loop-segment-test.true (c.loop-segment.invariant.taken honest)
      (c.in_ok-next.ensures.taken honest);
}

pub returns-clause-found : goal.returns-clause-found
returns-clause-found g c honest =
    all_taken c.args.asked.now c.args.removed.now c.args.folder.now (g.F.Files.view c.args.files.now).slots c.args.segments.now c.loop-segment.segment-index _ _ (omega (arith, c.loop-segment-test.false)) (c.loop-segment.invariant.taken honest)
