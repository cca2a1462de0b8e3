use Rattle.std.proofs.Common.{length, sym, ap, ◌∙◌}
use Rattle.std.proofs.lemmas.Str.{chars_past_char}
use Rattle.ix_index_text.proofs.WindowSteps.{no_chars}
use Rattle.ix_index_text.proofs.windows.split_char.Goals as goal

pub returns-in_default : goal.returns-in_default
returns-in_default c = no_chars c.args.text.now (ap length (sym c.chars-chars.ensures.rest) ∙ c.in_default.ensures.steps.0.0)

pub returns : goal.returns
returns c = rw c.as_str.ensures (chars_past_char c.args.text.now _ c.in-Some.first c.utf8.text (sym c.chars-chars.ensures.rest ∙ c.in-Some.ensures.steps.0))
