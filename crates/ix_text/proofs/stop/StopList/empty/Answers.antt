use Rattle.ix_text.proofs.StopSlotLemmas.{is_slotted-nil}
use Rattle.ix_text.proofs.stop.StopList.empty.Goals as goal

pub invariant_of-result : goal.invariant_of-result
invariant_of-result c = rw c.new.ensures.items (is_slotted-nil _)
