use Rattle.std.proofs.Common.{◌≡◌, ◌≤◌, length, map, take}
use Rattle.ix_script.specs.PrintedAnswers.{asked_in}
use Rattle.ix_script.specs.Steps.{step_of}
use Rattle.ix_script.proofs.asks.count_asks.Given as goal

abbrev pub invariant-loop-step : goal.invariant-loop-step
invariant-loop-step l = record {
  count : l.count ≡ length (asked_in (map step_of (take l.step-index l.steps)));
  few : l.count ≤ l.step-index;
}
