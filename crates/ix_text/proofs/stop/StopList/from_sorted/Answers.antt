use Rattle.std.proofs.lemmas.List.{length-map}
use Rattle.ix_text.proofs.StopSetLemmas.{terms_from_sizes}
use Rattle.ix_text.proofs.stop.StopList.from_sorted.Goals as goal

pub invariant_of-result : goal.invariant_of-result
invariant_of-result c = record {
  stop_set = record {
    few = rw length-map c.requires.few;
    ascending = c.requires.ascending;
    terms = terms_from_sizes _ c.requires.sizes;
  };
  slotted = rw c.deref.ensures.value at c.slots_of-slots.ensures;
}
