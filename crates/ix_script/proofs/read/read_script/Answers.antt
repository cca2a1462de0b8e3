-- Lines are read one after another, each up to the next LF.
use Rattle.std.proofs.Common.{ap, lit<, map}
use Rattle.std.proofs.lemmas.Result.{err_from_is_err_and}
use Rattle.ix_text.proofs.CollectionLemmas.{cut_texts}
use Rattle.ix_text.proofs.StopTextLemmas.{line_before_feed, no_feed_left}
use Rattle.ix_script.specs.Steps.{step_of}
use Rattle.ix_script.proofs.Reading.{fault_from_last, fault_from_line, read_all, read_line_more, read_nothing}
use Rattle.ix_script.proofs.read.read_script.Goals as goal

pub loop-line-init : goal.loop-line-init
loop-line-init c = record { lines = read_nothing _ _ _ (ap (map step_of) c.new-steps.ensures.items); characters = c.utf8.text }

pub returns-in_err-read_line-clause-fault : goal.returns-in_err-read_line-clause-fault
returns-in_err-read_line-clause-fault c =
    let cut = line_before_feed c.loop-line.left.now c.in-Some.line c.in-Some.next c.in-Some.ensures.cases in
    let p = err_from_is_err_and c.from_residual.result c.from_residual.ensures.1 in
    rw (p.1, p.2)
    (fault_from_line c.args.stop.now c.args.text.now c.loop-line.number _ c.loop-line.left.now c.in-Some.line.now c.in-Some.next.now c.in_err-read_line.field-0.0
    c.loop-line.invariant.lines cut.0 cut.1 c.in_err-read_line.ensures.fault)

pub loop-line-preserved : goal.loop-line-preserved
loop-line-preserved c =
    let cut = line_before_feed c.loop-line.left.now c.in-Some.line c.in-Some.next c.in-Some.ensures.cases in
    record {
      lines = read_line_more c.args.stop.now c.args.text.now c.loop-line.number _ _ c.loop-line.left.now c.in-Some.line.now c.in-Some.next.now c.loop-line.invariant.lines cut.0 cut.1
          c.in_ok-read_line.ensures.step;
      characters = (cut_texts c.loop-line.left.now 10 c.in-Some.line.now c.in-Some.next.now cut.0 (lit< tt) c.loop-line.invariant.characters).1;
    }

pub returns-in_err-read_line-2-clause-fault : goal.returns-in_err-read_line-2-clause-fault
returns-in_err-read_line-2-clause-fault c =
    let last = no_feed_left c.loop-line.left.now c.in_default.ensures.cases in
    let p = err_from_is_err_and c.from_residual-in_err-read_line-2.result c.from_residual-in_err-read_line-2.ensures.1 in
    rw (p.1, p.2)
    (fault_from_last c.args.stop.now c.args.text.now c.loop-line.number _ c.loop-line.left.now c.in_err-read_line-2.field-0.0
    c.loop-line.invariant.lines last c.in_err-read_line-2.ensures.fault)

pub returns-clause-read : goal.returns-clause-read
returns-clause-read c =
    let last = no_feed_left c.loop-line.left.now c.in_default.ensures.cases in
    read_all c.args.stop.now c.args.text.now c.loop-line.number _ _ c.loop-line.left.now c.loop-line.invariant.lines last c.in_ok-read_line-2.ensures.step
