use Rattle.std.proofs.Common.{◌≡◌, map, take}
use Rattle.ix_script.specs.PrintedAnswers.{asked_in}
use Rattle.ix_script.specs.Steps.{step_of}
use Rattle.ix_script.proofs.asks.queries_of.Given as goal

abbrev pub invariant-loop-step : goal.invariant-loop-step
invariant-loop-step l = map (λ query. query.now) l.queries.items ≡ asked_in (map step_of (take l.step-index l.steps))
