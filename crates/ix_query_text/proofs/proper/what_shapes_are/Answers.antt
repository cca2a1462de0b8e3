use Rattle.ix_query_text.proofs.TreeLemmas.{shaped-Phrase, shaped-Near, shaped-Pattern, shaped-And, shaped-Or, shaped-Not}
use Rattle.ix_query_text.proofs.proper.what_shapes_are.Goals as goal

pub returns-clause-phrase : goal.returns-clause-phrase
returns-clause-phrase c = shaped-Phrase

pub returns-clause-near : goal.returns-clause-near
returns-clause-near c = shaped-Near

pub returns-clause-pattern : goal.returns-clause-pattern
returns-clause-pattern c = λ pieces. (shaped-Pattern pieces).1 tt

pub returns-clause-both : goal.returns-clause-both
returns-clause-both c = shaped-And

pub returns-clause-either : goal.returns-clause-either
returns-clause-either c = shaped-Or

pub returns-clause-other : goal.returns-clause-other
returns-clause-other c = shaped-Not
