use Rattle.ix_run_text.proofs.RunTold.{nothing_behind}
use Rattle.ix_run_text.proofs.laws.no_run_text_begins_another.Goals as goal

pub returns : goal.returns
returns c = nothing_behind
