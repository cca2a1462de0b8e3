-- The line holds what was written in it.
use Rattle.std.proofs.Common.{◌∙◌, ◌++◌, ap, inl}
use Rattle.core.proofs.fmt.Cut.{AppendsIfIntact-from_calls}
use Rattle.core.proofs.fmt.Output.{if_some_weaken}
use Rattle.ix_ask.specs.EngineRefusals.{line_of}
use Rattle.ix_c.proofs.found.put_line.Goals as goal

pub returns-in-Ok : goal.returns-in-Ok
returns-in-Ok c = record {
  line = c.as_bytes.result.now;
  of_reason = inl (if_some_weaken (line_of c.args.refusal.now) _ _
      (λ text wrote. c.as_bytes.ensures.value ∙ c.as_str.ensures.value ∙ (AppendsIfIntact-from_calls _ text _ wrote c.new-line.ensures.intact).1 ∙ ap (λ before. before ++ text) c.new-line.ensures.text) c.in-Ok.ensures.writes);
  counted = c.put.ensures.size;
  filled = c.put.ensures.filled;
}
