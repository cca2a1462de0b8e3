use Rattle.ix_text.proofs.CollectionTold.{has_collection}
use Rattle.ix_text.proofs.parts.lawful_parts_have_collection.Goals as goal

pub returns : goal.returns
returns c = has_collection
