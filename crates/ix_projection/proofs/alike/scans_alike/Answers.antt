use Rattle.ix_projection.proofs.AlikeLemmas.{scans_alike}
use Rattle.ix_projection.proofs.alike.scans_alike.Goals as goal

pub returns : goal.returns
returns c = scans_alike c.args.query.now c.asks_alike.ensures
