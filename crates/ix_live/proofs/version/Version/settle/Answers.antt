use Rattle.std.proofs.Common.{◌∙◌, List, ap, subst, sym}
use Rattle.std.specs.Arc.{arc_value}
use Rattle.ix_live.specs.Histories.{operations_of}
use Rattle.ix_live.specs.Operations.{Operation}
use Rattle.ix_live.specs.Versions.{IsStored}
use Rattle.ix_live.proofs.Pasts.{operations_published}
use Rattle.ix_live.proofs.version.Version.settle.Goals as goal

pub invariant_of-self : goal.invariant_of-self
invariant_of-self c =
    let v = c.self.inside in
    subst (λ (l : List Operation). IsStored (arc_value v.stop) v.segments.items v.entries.items v.removed.items v.count v.tokens l) (sym (ap operations_of c.published.ensures ∙ operations_published v.past)) c.self.invariant
