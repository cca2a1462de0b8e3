use Rattle.ix_query.proofs.FindLemmas.{none_found, any_place}
use Rattle.ix_query.proofs.answers.find.near_or_nothing.Goals as goal

pub returns-in-Some : goal.returns-in-Some
returns-in-Some c = any_place _ _ _ c.in-Some.ensures

pub returns-in-None : goal.returns-in-None
returns-in-None c = none_found _ _ _ c.in-None.ensures c.nothing.ensures
