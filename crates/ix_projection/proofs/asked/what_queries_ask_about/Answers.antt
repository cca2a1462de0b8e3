use Rattle.ix_projection.proofs.AskedLemmas.{asks-Phrase, asks-Near, asks-Pattern, asks-And, asks-Or, asks-Not}
use Rattle.ix_projection.proofs.asked.what_queries_ask_about.Goals as goal

pub returns-clause-phrase : goal.returns-clause-phrase
returns-clause-phrase c = asks-Phrase

pub returns-clause-near : goal.returns-clause-near
returns-clause-near c = asks-Near

pub returns-clause-pattern : goal.returns-clause-pattern
returns-clause-pattern c = asks-Pattern

pub returns-clause-both : goal.returns-clause-both
returns-clause-both c = asks-And

pub returns-clause-either : goal.returns-clause-either
returns-clause-either c = asks-Or

pub returns-clause-other : goal.returns-clause-other
returns-clause-other c = asks-Not
