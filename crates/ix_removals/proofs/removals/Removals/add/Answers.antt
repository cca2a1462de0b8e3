-- The removal of the name is put in its place.
use Rattle.std.proofs.Common.{◌≡◌, ◌∙◌, ◌↔◌, ◌⊎◌, ◌<◌, List, max, subst, sym}
use Rattle.ix_removals.specs.RemovalEntries.{removals_of}
use Rattle.ix_removals.specs.RemovalsText.{AreRemovals, IsRemoved, Removal}
use Rattle.ix_removals.proofs.RemovedLemmas.{bound_fits, lawful_put, put, put_above, put_removed, seen_insert, wider_lawful}
use Rattle.ix_removals.proofs.removals.Removals.add.Goals as goal

-- the removals before the call are lawful
lawful : (c : goal.In_ok-insert) → AreRemovals c.args.self.now
lawful c = subst AreRemovals c.self.view_is c.self.invariant

-- what is there after the call
seen : (c : goal.In_ok-insert) → removals_of c.insert.new.self.entries ≡ put c.args.self.now (record { name = c.args.name.now; below = max c.bound-old.result c.args.below })
seen c =
    seen_insert c.self.inside.bounds.entries c.insert.new.self.entries c.args.self.now c.in_ok-key.key c.args.name.now c.bound-old.result c.args.below c.max-wider.result
    c.in_ok-insert.ensures.entries c.in_ok-key.ensures.ok c.max-wider.ensures c.self.view_is

pub invariant_of-self-2 : goal.invariant_of-self-2
invariant_of-self-2 c =
    let fits = bound_fits c.args.self.now c.args.name.now c.bound-old.result (lawful c) c.bound-old.ensures in
    subst AreRemovals (sym (seen c)) (lawful_put c.args.self.now (record { name = c.args.name.now; below = max c.bound-old.result c.args.below }) (lawful c) (wider_lawful c.args.name.now c.bound-old.result c.args.below fits c.requires))

pub returns-clause-removed : goal.returns-clause-removed
returns-clause-removed c = λ other number.
    let P : List Removal → Type 0 = λ removals. IsRemoved removals other number ↔ (IsRemoved c.args.self.now other number ⊎ ((other ≡ c.args.name.now) × (number < c.args.below))) in
    subst P (sym (seen c)) (put_removed c.args.self.now c.args.name.now c.bound-old.result c.args.below (lawful c).ascending c.bound-old.ensures other number)

pub returns-clause-lawful : goal.returns-clause-lawful
returns-clause-lawful c = invariant_of-self-2 c

pub returns-clause-last : goal.returns-clause-last
returns-clause-last c = λ above. seen c ∙ put_above c.args.self.now c.args.name.now c.bound-old.result c.args.below (lawful c).ascending c.bound-old.ensures above
