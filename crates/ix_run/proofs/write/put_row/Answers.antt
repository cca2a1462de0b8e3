use Rattle.std.proofs.Common.{string_bytes}
use Rattle.ix_vbyte.specs.Code.{code_of}
use Rattle.ix_vbyte.specs.Texts.{counted}
use Rattle.ix_run.proofs.Writing.{front_more, writes_refused, writes_then}
use Rattle.ix_run.proofs.write.put_row.Goals as goal

pub returns-in_err-put_counted : goal.returns-in_err-put_counted
returns-in_err-put_counted g c =
    writes_refused _ _ _ _ c.from_residual.ensures.0
    (front_more _ _ (counted (string_bytes c.args.doc.now.name)) (code_of c.args.doc.now.tokens) (rw c.as_bytes.ensures.value at c.in_err-put_counted.ensures))

pub returns : goal.returns
returns g c =
    writes_then c.put_code.result _ _ _ (counted (string_bytes c.args.doc.now.name)) (code_of c.args.doc.now.tokens) (rw c.as_bytes.ensures.value at c.in_ok-put_counted.ensures) c.put_code.ensures
