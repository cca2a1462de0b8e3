use Rattle.ix_text.proofs.PartsCounted.{positions_counted}
use Rattle.ix_text.proofs.parts.terms_share_tokens.Goals as goal

pub returns : goal.returns
returns c = positions_counted
