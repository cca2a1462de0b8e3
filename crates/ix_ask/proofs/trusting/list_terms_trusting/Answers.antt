-- What was found went out, or a beginning of it; without an answer nothing went out.
use Rattle.std.proofs.lemmas.Result.{err_from_is_err_and}
use Rattle.ix_ask.proofs.TrustLemmas.{listing_left}
use Rattle.ix_ask.proofs.trusting.list_terms_trusting.Goals as goal

pub returns-in_err-rows-clause-refused : goal.returns-in_err-rows-clause-refused
returns-in_err-rows-clause-refused g c =
    let p = err_from_is_err_and c.from_residual.result c.from_residual.ensures.1 in
    rw (p.1, p.2) (λ version collection has. listing_left collection c.args.pattern.now (g.W.Write.contents c.args.out.now) c.in_err-rows.field-0.0 (c.in_err-rows.ensures.refused version collection has))

pub returns-in-Ok-clause-printed : goal.returns-in-Ok-clause-printed
returns-in-Ok-clause-printed g c = λ version collection has. record {
  lines = c.in_ok-rows.rows.bytes.items;
  listed = c.in_ok-rows.ensures.listed version collection has;
  written = rw c.deref.ensures.value at c.in-Ok.ensures.whole;
}

pub returns-clause-refused : goal.returns-clause-refused
returns-clause-refused g c = λ version collection has. record {
  lines = c.in_ok-rows.rows.bytes.items;
  count = c.in_ok-rows.rows.count;
  listed = c.in_ok-rows.ensures.listed version collection has;
  front = rw c.deref.ensures.value at c.in-Err-Write.ensures.front;
}
