use Rattle.std.proofs.Common.{◌+◌, ◌-◌, length, sym, ap, ◌∙◌, arith}
use Rattle.ix_vbyte.proofs.Walks.{not_empty, empty, begins_with_gap, taken_position, no_positions, of_number}
use Rattle.ix_vbyte.specs.Walking.{ArePositionsFrom}
use Rattle.ix_vbyte.proofs.positions.PositionsIterator.next.Goals as goal

pub returns-then-is_empty-clause-steps : goal.returns-then-is_empty-clause-steps
returns-then-is_empty-clause-steps c =
    let none = sym c.self.view_is ∙ no_positions c.self.inside.next c.self.inside.bytes.now (empty _ c.if-is_empty.ensures) in
    (none, none)

pub first_number-gap-requires : goal.first_number-gap-requires
first_number-gap-requires c = begins_with_gap c.self.inside.next c.self.inside.count c.self.inside.bytes.now c.self.invariant (not_empty _ c.if-is_empty.ensures)

pub overflow_sub-position : goal.overflow_sub-position
overflow_sub-position c = (taken_position c.self.inside.next c.self.inside.count c.self.inside.bytes.now _ _ c.self.invariant (not_empty _ c.if-is_empty.ensures) c.first_number-gap.ensures).some.0

pub overflow_add-position : goal.overflow_add-position
overflow_add-position c =
    let taken = taken_position c.self.inside.next c.self.inside.count c.self.inside.bytes.now _ _ c.self.invariant (not_empty _ c.if-is_empty.ensures) c.first_number-gap.ensures in
    record { fits = omega (arith, taken.fits) }

pub overflow_add-self : goal.overflow_add-self
overflow_add-self c =
    let taken = taken_position c.self.inside.next c.self.inside.count c.self.inside.bytes.now _ _ c.self.invariant (not_empty _ c.if-is_empty.ensures) c.first_number-gap.ensures in
    record { fits = taken.fits }

pub invariant_of-self : goal.invariant_of-self
invariant_of-self c =
    of_number (λ n. ArePositionsFrom n (c.self.inside.count - 1) c.first_number-gap.result.1.now) _ (c.self.inside.next + (c.first_number-gap.result.0 - 1) + 1) (omega arith)
    (taken_position c.self.inside.next c.self.inside.count c.self.inside.bytes.now _ _ c.self.invariant (not_empty _ c.if-is_empty.ensures) c.first_number-gap.ensures).are

pub returns-clause-steps : goal.returns-clause-steps
returns-clause-steps c = sym c.self.view_is ∙ (taken_position c.self.inside.next c.self.inside.count c.self.inside.bytes.now _ _ c.self.invariant (not_empty _ c.if-is_empty.ensures) c.first_number-gap.ensures).told

pub returns-clause-goes : goal.returns-clause-goes
returns-clause-goes c =
    let taken = taken_position c.self.inside.next c.self.inside.count c.self.inside.bytes.now _ _ c.self.invariant (not_empty _ c.if-is_empty.ensures) c.first_number-gap.ensures in
    let more = ap length (sym c.self.view_is ∙ taken.told) in
    record { on = λ h. (tt, tt, omega (arith, more)); keeps = tt; rests = λ h. tt }
