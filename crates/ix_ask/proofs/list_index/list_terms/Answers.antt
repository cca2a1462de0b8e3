-- The lines went out, or a beginning of them.
use Rattle.ix_ask.proofs.list_index.list_terms.Goals as goal

pub returns-in-Ok-clause-printed : goal.returns-in-Ok-clause-printed
returns-in-Ok-clause-printed g c = λ version collection index. record {
  lines = c.in_ok-rows.rows.bytes.items;
  listed = c.in_ok-rows.ensures.listed version collection index;
  written = rw c.deref.ensures.value at c.in-Ok.ensures.whole;
}

pub returns-clause-refused : goal.returns-clause-refused
returns-clause-refused g c = λ version collection index. record {
  lines = c.in_ok-rows.rows.bytes.items;
  count = c.in_ok-rows.rows.count;
  listed = c.in_ok-rows.ensures.listed version collection index;
  front = rw c.deref.ensures.value at c.in-Err-Write.ensures.front;
}
