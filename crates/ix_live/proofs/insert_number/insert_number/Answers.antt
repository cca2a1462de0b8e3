use Rattle.std.proofs.Common.{List, ℕ, subst, sym}
use Rattle.std.specs.Prelude.{◌↔◌, ◌≡◌, ◌⊎◌, Contains}
use Rattle.std.specs.List.Sorted.{IsStrictlyIncreasing}
use Rattle.ix_live.proofs.Inserting.{in_inserted, insert_increasing, searched_apart}
use Rattle.ix_live.proofs.insert_number.insert_number.Goals as goal

pub returns-in-Ok-insert-clause-ascending : goal.returns-in-Ok-insert-clause-ascending
returns-in-Ok-insert-clause-ascending c =
    let xs = c.args.numbers.now.items in
    let told = rw c.deref.ensures.value at c.in-Err.ensures.position in
    let apart = searched_apart xs c.args.number c.in-Err.place told c.requires.ascending in
    subst IsStrictlyIncreasing (sym c.in-Ok-insert.ensures.items) (insert_increasing xs c.in-Err.place c.args.number apart.0 c.requires.ascending apart.1 apart.2)

pub returns-in-Ok-insert-clause-has : goal.returns-in-Ok-insert-clause-has
returns-in-Ok-insert-clause-has c =
    let xs = c.args.numbers.now.items in
    let told = rw c.deref.ensures.value at c.in-Err.ensures.position in
    let apart = searched_apart xs c.args.number c.in-Err.place told c.requires.ascending in
    subst (λ (l : List ℕ). (other : ℕ) → Contains l other ↔ (Contains xs other ⊎ (c.args.number ≡ other))) (sym c.in-Ok-insert.ensures.items) (in_inserted xs c.in-Err.place c.args.number apart.0)
