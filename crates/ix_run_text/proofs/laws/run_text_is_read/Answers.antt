use Rattle.std.proofs.Common.{[]}
use Rattle.ix_run_text.proofs.CallLemmas.{lies_ahead}
use Rattle.ix_run_text.proofs.laws.run_text_is_read.Goals as goal

pub returns : goal.returns
returns g c reader readers terms last entries faces lead = lies_ahead g.R.Read.remaining reader readers terms last [] entries faces lead
