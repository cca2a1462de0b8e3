use Rattle.ix_merge.proofs.MergingSteps.{merged_nothing}
use Rattle.ix_merge.proofs.terms.merge_terms.Goals as goal

pub returns-in_default-clause-some : goal.returns-in_default-clause-some
returns-in_default-clause-some g c before told was none =
    merged_nothing g.S.Source.heading g.S.Source.current g.S.Source.yields g.S.Source.gives g.W.Write.contents g.met.S.Source.given_lawfully c.args.sources.now c.args.writer.now before told c.requires.unread was none
