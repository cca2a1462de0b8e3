use Rattle.ix_query.proofs.StreamLemmas.{collected_more}
use Rattle.ix_query.proofs.answers.collect.collect.Goals as goal

pub loop-number-preserved : goal.loop-number-preserved
loop-number-preserved g c = rw c.in_ok-push.ensures.items (collected_more _ _ _ _ _ _ c.loop-number.invariant c.in-Some.ensures)
