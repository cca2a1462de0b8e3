use Rattle.std.proofs.Common.{◌++◌}
use Rattle.ix_vbyte.specs.Code.{code_of}
use Rattle.ix_vbyte.specs.Texts.{counted}
use Rattle.ix_output.proofs.SinkLemmas.{appends_then}
use Rattle.ix_run.proofs.Writing.{front_more, front_then, writes_refused, writes_then}
use Rattle.ix_run.proofs.write.put_term.Goals as goal

pub returns-in_err-put_counted : goal.returns-in_err-put_counted
returns-in_err-put_counted g c =
    let term = counted c.args.term.term.now in
    let documents = code_of c.args.term.documents in
    writes_refused _ _ _ _ c.from_residual.ensures.0
    (front_more _ _ (term ++ documents) (counted c.args.term.list.now) (front_more _ _ term documents (rw c.as_bytes.ensures.value at c.in_err-put_counted.ensures)))

pub returns-in_err-put_code : goal.returns-in_err-put_code
returns-in_err-put_code g c =
    let term = counted c.args.term.term.now in
    let documents = code_of c.args.term.documents in
    writes_refused _ _ _ _ c.from_residual-in_err-put_code.ensures.0
    (front_more _ _ (term ++ documents) (counted c.args.term.list.now) (front_then _ _ _ term documents (rw c.as_bytes.ensures.value at c.in_ok-put_counted.ensures) c.in_err-put_code.ensures))

pub returns : goal.returns
returns g c =
    let term = counted c.args.term.term.now in
    let documents = code_of c.args.term.documents in
    writes_then c.put_counted-2.result _ _ _ (term ++ documents) (counted c.args.term.list.now)
    (appends_then _ _ _ term documents (rw c.as_bytes.ensures.value at c.in_ok-put_counted.ensures) c.in_ok-put_code.ensures)
    c.put_counted-2.ensures
