use Rattle.ix_projection.proofs.KeptLemmas.{posting_kept}
use Rattle.ix_projection.proofs.laws.keeps_postings.Goals as goal

pub returns : goal.returns
returns c = posting_kept
