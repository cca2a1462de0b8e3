use Rattle.ix_query_text.proofs.ProperLemmas.{reads_proper}
use Rattle.ix_query_text.proofs.grammar.texts_read_as_proper_trees.Goals as goal

pub returns : goal.returns
returns c = reads_proper
