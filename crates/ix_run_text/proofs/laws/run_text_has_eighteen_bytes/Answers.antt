use Rattle.ix_run_text.proofs.TextLaws.{length-run_layout}
use Rattle.ix_run_text.proofs.laws.run_text_has_eighteen_bytes.Goals as goal

pub returns : goal.returns
returns c = λ first collection bytes is. length-run_layout first is.parts bytes is.spelled
