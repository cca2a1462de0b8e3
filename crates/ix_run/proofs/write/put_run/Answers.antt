use Rattle.std.proofs.Common.{◌++◌, ◌∷◌, [], flat_map, rules}
use Rattle.ix_run.specs.Runs.{front_bytes, head_value, run_bytes, value_bytes}
use Rattle.ix_output.proofs.SinkLemmas.{appends_then}
use Rattle.ix_run.proofs.Writing.{front_more, front_then, writes_refused, writes_then}
use Rattle.ix_run.proofs.write.put_run.Goals as goal

pub returns-in_err-put_head : goal.returns-in_err-put_head
unfolding run_bytes
returns-in_err-put_head g c =
    let front = front_bytes (head_value c.args.head.now []) in
    let terms = flat_map value_bytes c.args.terms.now in
    writes_refused _ _ _ _ c.from_residual.ensures.0
    (front_more _ _ (front ++ terms) (128 ∷ []) (front_more _ _ front terms c.in_err-put_head.ensures))

pub returns-in_err-put_terms : goal.returns-in_err-put_terms
unfolding run_bytes
returns-in_err-put_terms g c =
    let front = front_bytes (head_value c.args.head.now []) in
    let terms = flat_map value_bytes c.args.terms.now in
    writes_refused _ _ _ _ c.from_residual-in_err-put_terms.ensures.0
    (front_more _ _ (front ++ terms) (128 ∷ []) (front_then _ _ _ front terms c.in_ok-put_head.ensures c.in_err-put_terms.ensures))

pub returns : goal.returns
unfolding run_bytes
returns g c =
    let front = front_bytes (head_value c.args.head.now []) in
    let terms = flat_map value_bytes c.args.terms.now in
    writes_then c.put.result _ _ _ (front ++ terms) (128 ∷ []) (appends_then _ _ _ front terms c.in_ok-put_head.ensures c.in_ok-put_terms.ensures) (search rules)
