use Rattle.ix_projection.proofs.KeptParts.{index_text_kept}
use Rattle.ix_projection.proofs.laws.keeps_index_text.Goals as goal

pub returns : goal.returns
returns c = index_text_kept
