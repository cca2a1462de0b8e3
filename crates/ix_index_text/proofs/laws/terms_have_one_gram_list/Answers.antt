use Rattle.ix_index_text.proofs.GramLists.{one_of_terms}
use Rattle.ix_index_text.proofs.laws.terms_have_one_gram_list.Goals as goal

pub returns : goal.returns
returns c = one_of_terms
