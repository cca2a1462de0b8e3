use Rattle.std.proofs.Common.{◌≡◌, length, map, take}
use Rattle.std.specs.String.{string_bytes}
use Rattle.ix_script.specs.Answers.{names_in}
use Rattle.ix_script.specs.PrintedAnswers.{answered_with, asked_in, lines_of}
use Rattle.ix_script.specs.Runs.{some_found}
use Rattle.ix_script.specs.Steps.{step_of}
use Rattle.ix_script.proofs.asks.lines_of.Given as goal

abbrev pub invariant-loop-step : goal.invariant-loop-step
invariant-loop-step l = record {
  place : l.place ≡ length (asked_in (map step_of (take l.step-index l.steps)));
  lines : string_bytes l.lines ≡ lines_of (answered_with (map step_of (take l.step-index l.steps)) (map names_in l.answers));
  found : l.found ≡ some_found (answered_with (map step_of (take l.step-index l.steps)) (map names_in l.answers));
}
