-- The texts that were cut are those that were merged.
use Rattle.ix_ask.specs.Merging.{texts_behind}
use Rattle.ix_c.proofs.merging.merge_under.Goals as goal

pub returns-in-Ok-clause-merged : goal.returns-in-Ok-clause-merged
returns-in-Ok-clause-merged c = record {
  texts = texts_behind c.in_ok-texts.texts.items;
  cut = c.in_ok-texts.ensures.cut;
  merge = rw c.deref.ensures.value at c.in-Ok.ensures.merged;
}

pub returns-clause-refused : goal.returns-clause-refused
returns-clause-refused c = (texts_behind c.in_ok-texts.texts.items, c.in_ok-texts.ensures.cut, rw c.deref.ensures.value at c.in-Err.ensures.refused)
