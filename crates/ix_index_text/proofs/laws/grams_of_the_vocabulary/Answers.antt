use Rattle.ix_index_text.proofs.GramLists.{of_collection}
use Rattle.ix_index_text.proofs.laws.grams_of_the_vocabulary.Goals as goal

pub returns : goal.returns
returns c = of_collection
