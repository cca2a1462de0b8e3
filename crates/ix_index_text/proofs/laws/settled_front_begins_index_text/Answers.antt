use Rattle.ix_index_text.proofs.EndingLemmas.{begins_text}
use Rattle.ix_index_text.proofs.laws.settled_front_begins_index_text.Goals as goal

pub returns : goal.returns
returns c = begins_text
