use Rattle.std.proofs.Common.{List, ap, refl, subst}
use mathlib.Core.List.{IsPrefix}
use Rattle.ix_live.specs.Operations.{Operation}
use Rattle.ix_live.proofs.Beginnings.{joined_begins}
use Rattle.ix_live.proofs.log_prefix.LogPrefix.covers.Goals as goal

pub returns : goal.returns
returns c =
    let both = c.learn.new.self.log in
    let this : IsPrefix c.self.inside.seen.log both = subst (λ (l : List (List Operation)). IsPrefix l both) (ap (λ s. s.log) c.again-both.ensures) c.learn.ensures.2 in
    rw (← c.self.view_is, ← c.other.view_is) (joined_begins c.self.inside.seen.log c.other.inside.seen.log both c.self.inside.steps c.other.inside.steps c.self.invariant c.other.invariant this c.learn.ensures.3 _ refl)
