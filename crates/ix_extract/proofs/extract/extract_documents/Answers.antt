use Rattle.ix_extract.proofs.Projecting.{projected_none}
use Rattle.ix_extract.proofs.extract.extract_documents.Goals as goal

pub returns-clause-extracted : goal.returns-clause-extracted
returns-clause-extracted g c = λ version collection has.
    projected_none (g.S.ReadAt.contents c.args.source.now) version collection c.in_ok-trailer.trailer c.in_ok-text.text.items has
    c.in_ok-trailer.ensures.trailer c.in_ok-text.ensures.assembled
