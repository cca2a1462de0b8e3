use Rattle.ix_query_text.proofs.FaultLemmas
use Rattle.ix_query_text.proofs.grammar.an_unexpected_lexeme_is_the_first.Goals as goal

pub returns : goal.returns
returns c = FaultLemmas.unexpected
