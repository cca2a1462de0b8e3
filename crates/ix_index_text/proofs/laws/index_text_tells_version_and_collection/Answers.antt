use Rattle.ix_index_text.proofs.IndexTold.{index_told}
use Rattle.ix_index_text.proofs.laws.index_text_tells_version_and_collection.Goals as goal

pub returns : goal.returns
returns c = index_told
