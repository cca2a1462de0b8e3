use Rattle.ix_pool.proofs.ShareLemmas as lemmas
use Rattle.ix_pool.proofs.laws.each_place_is_of_one_maker.Goals as goal

pub returns-clause-one : goal.returns-clause-one
returns-clause-one c = lemmas.each_of_one_maker

pub returns-clause-no_other : goal.returns-clause-no_other
returns-clause-no_other c = lemmas.none_from_the_count_on
