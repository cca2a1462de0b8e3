use Rattle.ix_query.proofs.FindLemmas.{any_place}
use Rattle.ix_query.proofs.PartLemmas.{ok_more, numbers_found, nothing_found}
use Rattle.ix_query.proofs.answers.find.near_numbers.Goals as goal

pub returns-in-Some-clause-numbers : goal.returns-in-Some-clause-numbers
returns-in-Some-clause-numbers c = ok_more _ _ _ c.collect.ensures.all (λ numbers all. numbers_found _ _ _ _ (any_place _ _ _ c.in-Some.ensures) all)

pub returns-in-Some-clause-none : goal.returns-in-Some-clause-none
returns-in-Some-clause-none c = λ collection of none. c.collect.ensures.none (λ n place near. none n ((c.in-Some.ensures collection of n).0 near))

pub returns-in-None-clause-numbers : goal.returns-in-None-clause-numbers
returns-in-None-clause-numbers c = rw c.new.ensures.items (nothing_found _ _ c.in-None.ensures)
