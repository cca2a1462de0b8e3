use Rattle.std.proofs.Common.{sym, ap, ◌∙◌}
use Rattle.ix_file.specs.Postings.{documents_of}
use Rattle.ix_query.proofs.StreamLemmas.{documents_from}
use Rattle.ix_query.proofs.answers.word.pass.Goals as goal

pub returns-in-Some-clause-passed : goal.returns-in-Some-clause-passed
returns-in-Some-clause-passed c = ap documents_of (sym c.in-Some.ensures.found) ∙ documents_from c.args.low c.args.rest.now

pub returns-in-None-clause-passed : goal.returns-in-None-clause-passed
returns-in-None-clause-passed c = ap documents_of (c.in-None.ensures.none.1 ∙ sym c.in-None.ensures.none.0) ∙ documents_from c.args.low c.args.rest.now
