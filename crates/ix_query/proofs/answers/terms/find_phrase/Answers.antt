use Rattle.ix_query.proofs.FindLemmas.{none_found}
use Rattle.ix_query.proofs.answers.terms.find_phrase.Goals as goal

pub returns-in-Some : goal.returns-in-Some
returns-in-Some c = rw c.in-Some.ensures c.find_word.ensures

pub returns-in-Some-2 : goal.returns-in-Some-2
returns-in-Some-2 c = c.join_terms.ensures c.args.parts.now (rw c.in-Some-2.is at c.in_ok-placed.ensures)

pub returns-in-None : goal.returns-in-None
returns-in-None c = none_found _ _ _ (rw c.in-None.is at c.in_ok-placed.ensures) c.nothing.ensures
