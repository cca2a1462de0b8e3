use Rattle.ix_vbyte.proofs.Postings.{list_apart}
use Rattle.ix_vbyte.proofs.laws.postings_come_back.Goals as goal

pub returns : goal.returns
returns c = list_apart 0
