use Rattle.ix_query_text.proofs.FaultLemmas
use Rattle.ix_query_text.proofs.grammar.the_end_comes_too_soon.Goals as goal

pub returns : goal.returns
returns c = FaultLemmas.too_soon
