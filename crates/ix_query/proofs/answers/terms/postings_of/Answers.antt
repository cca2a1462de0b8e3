use Rattle.ix_query.proofs.FindLemmas.{of_term, nowhere}
use Rattle.ix_query.proofs.answers.terms.postings_of.Goals as goal

pub returns-in-Some : goal.returns-in-Some
returns-in-Some c = of_term c.args.index.now.parts c.args.term.now c.in-Some.postings (rw c.as_str.ensures at c.in-Some.ensures) c.len-count.ensures.lawful

pub returns-in-None : goal.returns-in-None
returns-in-None c = nowhere c.args.index.now.parts c.args.term.now (rw c.as_str.ensures at c.in-None.ensures)
