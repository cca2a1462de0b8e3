-- A name that is above the last is above all.
use Rattle.std.proofs.Common.{◌∙◌, ap}
use Rattle.std.specs.Cmp.Lexicographic.{slice_cmp}
use Rattle.std.specs.Ordering.{nat_cmp}
use Rattle.ix_removals.proofs.RemovedLemmas.{above_last}
use Rattle.ix_removals.proofs.removals.Removals.is_below.Goals as goal

pub returns-in-Some : goal.returns-in-Some
returns-in-Some c =
    above_last c.self.inside.bounds.entries c.args.self.now _ c.in-Some.last.now c.in-Some.field-0-1.now c.args.name.now c.cmp.result c.is_lt.result c.self.view_is c.in-Some.ensures.last c.in-Some.ensures.all_up_to
    (c.cmp.ensures ∙ ap (λ last. slice_cmp nat_cmp last c.args.name.now) c.as_str.ensures.value) c.is_lt.ensures
