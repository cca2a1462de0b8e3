-- The number is below the bound of the name.
use Rattle.std.proofs.lemmas.Bool.Decides.{Decides-ltb}
use Rattle.ix_removals.proofs.removals.Removals.is_removed.Goals as goal

pub returns : goal.returns
returns c = (
  λ yes. (c.bound.ensures c.args.number).0 ((Decides-ltb c.args.number c.bound.result).0 yes),
  λ removed. (Decides-ltb c.args.number c.bound.result).1 ((c.bound.ensures c.args.number).1 removed),
)
