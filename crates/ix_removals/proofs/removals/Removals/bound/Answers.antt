-- What the map has for a name is its bound.
use Rattle.std.proofs.Common.{◌∙◌, ap}
use Rattle.std.specs.Prelude.{unwrap_or}
use Rattle.ix_removals.proofs.RemovedLemmas.{bound_found}
use Rattle.ix_removals.proofs.removals.Removals.bound.Goals as goal

pub returns : goal.returns
returns c =
    bound_found c.self.inside.bounds.entries c.args.self.now c.args.name.now c.unwrap_or.result c.self.view_is c.self.invariant
    (c.unwrap_or.ensures ∙ ap (λ found. unwrap_or found 0) (c.copied.ensures ∙ c.get.ensures.value))
