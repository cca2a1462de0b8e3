use Rattle.std.proofs.Common.{string_bytes}
use Rattle.ix_vbyte.specs.Texts.{counted}
use Rattle.ix_output.proofs.SinkLemmas.{appends_nothing}
use Rattle.ix_run.proofs.Writing.{appends_all, appends_one_more, front_within, writes_refused}
use Rattle.ix_run.proofs.write.put_texts.Goals as goal

pub loop-text-init : goal.loop-text-init
loop-text-init g c = appends_nothing _

pub returns-in_err-put_counted : goal.returns-in_err-put_counted
returns-in_err-put_counted g c =
    writes_refused _ _ _ _ c.from_residual.ensures.0
    (front_within counted string_bytes c.args.texts.now _ _ _ c.loop-text.text-index c.text-item.result c.loop-text-test.true c.text-item.is c.loop-text.invariant (rw c.as_bytes.ensures.value at c.in_err-put_counted.ensures))

pub loop-text-preserved : goal.loop-text-preserved
loop-text-preserved g c =
    appends_one_more counted string_bytes c.args.texts.now _ _ _ c.loop-text.text-index c.text-item.result c.loop-text-test.true c.text-item.is c.loop-text.invariant (rw c.as_bytes.ensures.value at c.in_ok-put_counted.ensures)

pub returns : goal.returns
returns g c = appends_all counted string_bytes c.args.texts.now _ _ c.loop-text.text-index c.loop-text-test.false c.loop-text.invariant
