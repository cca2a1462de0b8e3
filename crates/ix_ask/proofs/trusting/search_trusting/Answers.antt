-- What was found went out, or a beginning of it; without an answer nothing went out.
use Rattle.std.proofs.lemmas.Result.{err_from_is_err_and}
use Rattle.ix_ask.proofs.TrustLemmas.{search_left}
use Rattle.ix_ask.proofs.trusting.search_trusting.Goals as goal

pub returns-in_err-names-clause-refused : goal.returns-in_err-names-clause-refused
returns-in_err-names-clause-refused g c =
    let p = err_from_is_err_and c.from_residual.result c.from_residual.ensures.1 in
    rw (p.1, p.2) (λ version collection has. search_left collection c.args.query.now (g.W.Write.contents c.args.out.now) c.in_err-names.field-0.0 (c.in_err-names.ensures.refused version collection has))

pub returns-in-Ok-clause-answered : goal.returns-in-Ok-clause-answered
returns-in-Ok-clause-answered g c = λ version collection has. record {
  lines = c.in_ok-names.names.bytes.items;
  found = c.in_ok-names.ensures.found version collection has;
  written = rw c.deref.ensures.value at c.in-Ok.ensures.whole;
}

pub returns-clause-refused : goal.returns-clause-refused
returns-clause-refused g c = λ version collection has. record {
  lines = c.in_ok-names.names.bytes.items;
  count = c.in_ok-names.names.count;
  found = c.in_ok-names.ensures.found version collection has;
  front = rw c.deref.ensures.value at c.in-Err-Write.ensures.front;
}
