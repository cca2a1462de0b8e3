use Rattle.ix_query_text.proofs.GrammarLemmas.{unique}
use Rattle.ix_query_text.proofs.grammar.a_text_has_one_tree.Goals as goal

pub returns : goal.returns
returns c = unique
