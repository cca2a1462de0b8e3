use Rattle.ix_vbyte.proofs.Postings.{list_bytes_from-zip}
use Rattle.ix_vbyte.proofs.laws.list_is_its_postings.Goals as goal

pub returns : goal.returns
returns c postings = list_bytes_from-zip 0 postings
