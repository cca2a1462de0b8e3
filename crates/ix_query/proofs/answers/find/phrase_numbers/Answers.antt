use Rattle.ix_query.proofs.PartLemmas.{ok_more, numbers_found}
use Rattle.ix_query.proofs.answers.find.phrase_numbers.Goals as goal

pub returns : goal.returns
returns c = ok_more _ _ _ c.collect.ensures.all (λ numbers all. numbers_found _ _ _ _ c.in_ok-phrase.ensures all)
