use Rattle.std.proofs.Common.{◌∙◌}
use Rattle.ix_query.proofs.StreamLemmas.{marked_up}
use Rattle.ix_query.proofs.answers.collect.mark.Goals as goal

pub loop-number-preserved : goal.loop-number-preserved
loop-number-preserved g c = record {
  up = marked_up _ _ _ _ _ _ _ _ c.in-Some.number c.loop-number.invariant.up c.in-Some.ensures (rw c.loop-number.invariant.count at c.mark.ensures.marked);
  count = c.mark.ensures.count ∙ c.loop-number.invariant.count;
}
