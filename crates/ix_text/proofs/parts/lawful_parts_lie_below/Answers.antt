use Rattle.ix_text.proofs.PartsLawful.{postings_below}
use Rattle.ix_text.proofs.parts.lawful_parts_lie_below.Goals as goal

pub returns : goal.returns
returns c = postings_below
