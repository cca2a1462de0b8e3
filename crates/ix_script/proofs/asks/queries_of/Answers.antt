-- The next step asks one query more, or none.
use Rattle.std.proofs.Common.{◌∙◌, ◌∷◌, [], ◌++◌, ap, map, sym}
use Rattle.std.proofs.lemmas.List.{map_push}
use Rattle.ix_script.specs.Steps.{step_of}
use Rattle.ix_script.proofs.PrintingLemmas.{next_asked, next_quiet}
use Rattle.ix_script.proofs.asks.queries_of.Goals as goal
use Rattle.ix_script.proofs.asks.queries_of.Goals.{in-Ask+in_ok-push, in_default}

pub loop-step-preserved : goal.loop-step-preserved
loop-step-preserved c = elim c.match-step.branch [
  | in-Ask+in_ok-push w ↦
      rw w.queries-is
      (ap (map (λ query. query.now)) w.in_ok-push.ensures.items ∙ map_push (λ query. query.now) c.loop-step.queries.items _ ∙ ap (λ l. l ++ w.in-Ask.query ∷ []) c.loop-step.invariant
      ∙ sym (next_asked c.args.steps.now c.loop-step.step-index c.step-item.result _ w.in-Ask.query c.loop-step-test.true c.step-item.is (ap step_of w.in-Ask.is)))
  | in_default w ↦
      rw w.queries-is (c.loop-step.invariant ∙ sym (next_quiet c.args.steps.now c.loop-step.step-index c.step-item.result c.loop-step-test.true c.step-item.is w.in_default.not-Ask))
]
