use Rattle.ix_text.proofs.PartsLemmas.{same_collection}
use Rattle.ix_text.proofs.parts.parts_tell_collection.Goals as goal

pub returns : goal.returns
returns c = same_collection
