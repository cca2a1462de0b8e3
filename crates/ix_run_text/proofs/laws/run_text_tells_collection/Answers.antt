use Rattle.ix_run_text.proofs.RunTold.{run_told}
use Rattle.ix_run_text.proofs.laws.run_text_tells_collection.Goals as goal

pub returns : goal.returns
returns c = run_told
