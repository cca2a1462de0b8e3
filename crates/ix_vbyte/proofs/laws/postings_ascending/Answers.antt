use Rattle.ix_vbyte.proofs.Sizes.{postings_from, postings_rising}
use Rattle.ix_vbyte.proofs.laws.postings_ascending.Goals as goal

pub returns : goal.returns
returns c top postings = (postings_rising top postings, λ h. postings_from top postings h.0 h.1 h.2)
