use Rattle.std.proofs.Common.{arith, length-drop}
use Rattle.ix_output.proofs.SinkLemmas.{appends_keeps, appends_more, front_from_taken, on_err_always, rest_whole}
use Rattle.ix_output.proofs.sink.put_all.Goals as goal

pub returns-in_err-written-clause-front : goal.returns-in_err-written-clause-front
returns-in_err-written-clause-front g c =
    on_err_always _ (front_from_taken _ _ c.args.bytes.now c.loop.written (appends_keeps _ _ _ _ c.loop.invariant.gained c.in_err-written.ensures.kept))

pub loop-preserved : goal.loop-preserved
loop-preserved g c =
    let within = rw (rest_whole c.args.bytes.now c.loop.written) at c.in_ok-written.ensures.within in
    record {
      within = omega (arith, within, c.loop.invariant.within, length-drop c.loop.written c.args.bytes.now);
      gained = appends_more _ _ _ c.args.bytes.now c.loop.written c.in_ok-written.field-0 c.loop.invariant.gained c.in_ok-written.ensures.part;
    }

pub returns-clause-front : goal.returns-clause-front
returns-clause-front g c = front_from_taken _ _ c.args.bytes.now c.loop.written c.loop.invariant.gained
