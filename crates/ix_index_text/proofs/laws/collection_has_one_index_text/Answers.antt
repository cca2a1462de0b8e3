use Rattle.ix_index_text.proofs.OneText.{has_index_text, one_index_text}
use Rattle.ix_index_text.proofs.laws.collection_has_one_index_text.Goals as goal

pub returns : goal.returns
returns c = record { some = has_index_text; one = one_index_text }
