use Rattle.ix_run_text.proofs.CallLemmas.{read_run_text}
use Rattle.ix_run_text.proofs.laws.what_is_read_is_run_text.Goals as goal

pub returns : goal.returns
returns g c = read_run_text g.R.Read.remaining
