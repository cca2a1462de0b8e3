use Rattle.ix_projection.proofs.KeptLemmas.{lawful_kept}
use Rattle.ix_projection.proofs.laws.keeps_lawful.Goals as goal

pub returns : goal.returns
returns c = lawful_kept
