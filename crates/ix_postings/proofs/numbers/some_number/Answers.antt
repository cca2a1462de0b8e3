use Rattle.ix_postings.proofs.NumberLemmas.{number_is}
use Rattle.ix_postings.proofs.numbers.some_number.Goals as goal

pub returns-in-Some-clause-accepted : goal.returns-in-Some-clause-accepted
returns-in-Some-clause-accepted c number missing rest some fits e = number_is c.args.bytes.now missing c.in-Some.found.0 c.in-Some.found.1 number rest c.in-Some.ensures.found.spelled e
