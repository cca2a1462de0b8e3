use Rattle.ix_run_text.proofs.OneRunText.{has_run_text, one_run_text}
use Rattle.ix_run_text.proofs.laws.collection_has_one_run_text.Goals as goal

pub returns : goal.returns
returns c = record { some = has_run_text; one = one_run_text }
