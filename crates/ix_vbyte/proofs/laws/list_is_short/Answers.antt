use Rattle.ix_vbyte.proofs.Sizes.{list_short}
use Rattle.ix_vbyte.proofs.laws.list_is_short.Goals as goal

pub returns : goal.returns
returns c = list_short 0
