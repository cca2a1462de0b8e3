use Rattle.ix_index_text.proofs.IndexTold.{collection_told}
use Rattle.ix_index_text.proofs.laws.index_text_tells_collection.Goals as goal

pub returns : goal.returns
returns c = collection_told
