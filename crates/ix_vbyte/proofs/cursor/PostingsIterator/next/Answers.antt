use Rattle.std.proofs.Common.{◌+◌, ◌-◌, length, sym, ap, ◌∙◌, subst, arith}
use Rattle.ix_vbyte.proofs.Walks.{not_empty, empty, begins_with_posting, taken_posting, no_postings, of_number}
use Rattle.ix_vbyte.specs.Skips.{AreSkips}
use Rattle.ix_vbyte.proofs.Places.{LeftAt, skips_passed}
use Rattle.ix_vbyte.proofs.cursor.PostingsIterator.next.Goals as goal

pub returns-then-is_empty-clause-steps : goal.returns-then-is_empty-clause-steps
returns-then-is_empty-clause-steps c =
    let none = sym c.self.view_is ∙ no_postings c.self.inside.next c.self.inside.count c.self.inside.bytes.now (empty _ c.if-is_empty.ensures) in
    (none, none)

pub first_posting-posting-requires : goal.first_posting-posting-requires
first_posting-posting-requires c = begins_with_posting c.self.inside.next c.self.inside.count c.self.inside.bytes.now c.self.invariant.0 (not_empty _ c.if-is_empty.ensures)

pub overflow_add-self : goal.overflow_add-self
overflow_add-self c = record { fits = (taken_posting c.self.inside.next c.self.inside.count c.self.inside.bytes.now _ _ _ c.self.invariant.0 (not_empty _ c.if-is_empty.ensures) c.first_posting-posting.ensures).fits }

pub invariant_of-self : goal.invariant_of-self
invariant_of-self c =
    let taken = taken_posting c.self.inside.next c.self.inside.count c.self.inside.bytes.now _ _ _ c.self.invariant.0 (not_empty _ c.if-is_empty.ensures) c.first_posting-posting.ensures in
    let places = skips_passed _ _ c.self.inside.skips.now (subst (λ ps. AreSkips ps c.self.inside.skips.now) taken.told c.self.invariant.1) in
    let left = of_number (λ n. LeftAt (c.first_posting-posting.result.0.document + 1) n c.first_posting-posting.result.1.now c.self.inside.skips.now) _ (c.self.inside.count - 1) (omega arith) (record { are = taken.are; places = places }) in
    (left.are, left.places)

pub returns-clause-steps : goal.returns-clause-steps
returns-clause-steps c = sym c.self.view_is ∙ (taken_posting c.self.inside.next c.self.inside.count c.self.inside.bytes.now _ _ _ c.self.invariant.0 (not_empty _ c.if-is_empty.ensures) c.first_posting-posting.ensures).told

pub returns-clause-goes : goal.returns-clause-goes
returns-clause-goes c =
    let taken = taken_posting c.self.inside.next c.self.inside.count c.self.inside.bytes.now _ _ _ c.self.invariant.0 (not_empty _ c.if-is_empty.ensures) c.first_posting-posting.ensures in
    let more = ap length (sym c.self.view_is ∙ taken.told) in
    record { on = λ h. (tt, tt, omega (arith, more)); keeps = tt; rests = λ h. tt }
