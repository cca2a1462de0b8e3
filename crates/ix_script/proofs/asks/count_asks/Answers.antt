-- The next step asks one query more, or none.
use Rattle.std.proofs.Common.{◌∷◌, [], ap, length, length-append, map, take, arith}
use Rattle.ix_script.specs.PrintedAnswers.{asked_in}
use Rattle.ix_script.specs.Steps.{step_of}
use Rattle.ix_script.proofs.PrintingLemmas.{next_asked, next_quiet}
use Rattle.ix_script.proofs.asks.count_asks.Goals as goal
use Rattle.ix_script.proofs.asks.count_asks.Goals.{in-Ask, in_default}

pub loop-step-preserved : goal.loop-step-preserved
loop-step-preserved c = elim c.match-step.branch [
  | in-Ask w ↦
      (let steps = c.args.steps.now in
      let at = c.loop-step.step-index in
      let next = ap length (next_asked steps at c.step-item.result _ _ c.loop-step-test.true c.step-item.is (ap step_of w.in-Ask.is)) in
      let more = length-append (asked_in (map step_of (take at steps))) (w.in-Ask.field-1 ∷ []) in
      record {
        count = omega (arith, w.count-is, c.loop-step.invariant.count, next, more);
        few = omega (arith, w.count-is, c.loop-step.invariant.few);
      })
  | in_default w ↦
      (let next = ap length (next_quiet c.args.steps.now c.loop-step.step-index c.step-item.result c.loop-step-test.true c.step-item.is w.in_default.not-Ask) in
      record {
        count = omega (arith, w.count-is, c.loop-step.invariant.count, next);
        few = omega (arith, w.count-is, c.loop-step.invariant.few);
      })
]
