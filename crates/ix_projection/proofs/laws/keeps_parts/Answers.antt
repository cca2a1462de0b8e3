use Rattle.ix_projection.proofs.KeptParts.{parts_kept}
use Rattle.ix_projection.proofs.laws.keeps_parts.Goals as goal

pub returns : goal.returns
returns c = parts_kept
