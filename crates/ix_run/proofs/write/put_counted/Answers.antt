use Rattle.std.proofs.Common.{length}
use Rattle.ix_vbyte.specs.Code.{code_of}
use Rattle.ix_run.proofs.Writing.{front_more, writes_refused, writes_then}
use Rattle.ix_run.proofs.write.put_counted.Goals as goal

pub returns-in_err-put_code : goal.returns-in_err-put_code
returns-in_err-put_code g c = writes_refused _ _ _ _ c.from_residual.ensures.0 (front_more _ _ (code_of (length c.args.text.now)) c.args.text.now c.in_err-put_code.ensures)

pub returns : goal.returns
returns g c = writes_then c.put.result _ _ _ (code_of (length c.args.text.now)) c.args.text.now c.in_ok-put_code.ensures c.put.ensures
