use Rattle.ix_query.proofs.SatisfactionLemmas.{satisfies-Phrase, satisfies-Near, satisfies-Pattern, satisfies-And, satisfies-Or, satisfies-Not}
use Rattle.ix_query.proofs.satisfaction.what_queries_ask.Goals as goal

pub returns-clause-phrase : goal.returns-clause-phrase
returns-clause-phrase c = satisfies-Phrase

pub returns-clause-near : goal.returns-clause-near
returns-clause-near c = satisfies-Near

pub returns-clause-pattern : goal.returns-clause-pattern
returns-clause-pattern c = satisfies-Pattern

pub returns-clause-both : goal.returns-clause-both
returns-clause-both c = satisfies-And

pub returns-clause-either : goal.returns-clause-either
returns-clause-either c = satisfies-Or

pub returns-clause-other : goal.returns-clause-other
returns-clause-other c = satisfies-Not
