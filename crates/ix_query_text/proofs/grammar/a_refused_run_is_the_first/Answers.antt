use Rattle.ix_query_text.proofs.FaultLemmas
use Rattle.ix_query_text.proofs.grammar.a_refused_run_is_the_first.Goals as goal

pub returns : goal.returns
returns c = FaultLemmas.refused_first
