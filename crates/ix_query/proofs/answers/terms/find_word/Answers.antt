use Rattle.ix_query.proofs.FindLemmas.{word_found, word_nowhere, none_found, any_place}
use Rattle.ix_query.proofs.answers.terms.find_word.Goals as goal

pub returns-in-Some : goal.returns-in-Some
returns-in-Some c = any_place _ _ _ (rw c.new.ensures (word_found c.args.index.now.parts c.args.term.now c.in-Some.postings c.in-Some.ensures))

pub returns-in-None : goal.returns-in-None
returns-in-None c = none_found _ _ _ (word_nowhere c.args.index.now.parts c.args.term.now c.in-None.ensures) c.nothing.ensures
