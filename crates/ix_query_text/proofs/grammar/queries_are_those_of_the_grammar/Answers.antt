use Rattle.ix_query_text.proofs.GrammarLemmas.{found, only}
use Rattle.ix_query_text.proofs.grammar.queries_are_those_of_the_grammar.Goals as goal

pub returns : goal.returns
returns c = λ stop text query. (found stop text query, only stop text query)
