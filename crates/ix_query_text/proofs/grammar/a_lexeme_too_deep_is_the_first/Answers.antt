use Rattle.ix_query_text.proofs.FaultLemmas
use Rattle.ix_query_text.proofs.grammar.a_lexeme_too_deep_is_the_first.Goals as goal

pub returns : goal.returns
returns c = FaultLemmas.too_deep
