-- The bytes that are left, with another gap in front, are those of the postings counted from elsewhere.
use Rattle.std.proofs.Common.{◌≡◌, ℕ, ◌+◌, ◌<◌, List, ◌++◌, length, sym, ap, ◌∙◌, subst, append-nil, vec_capacity, vec_len, OnErr, OnOk, arith}
use Rattle.ix_vbyte.proofs.Shifting.{is_shifted, none_shifted}
use Rattle.ix_vbyte.proofs.Walks.{begins_with_gap_of_posting, empty, not_empty}
use Rattle.ix_vbyte.proofs.cursor.Postings.push_shifted.Goals as goal

pub returns-then-is_empty-clause-ok : goal.returns-then-is_empty-clause-ok
returns-then-is_empty-clause-ok c =
    let none = none_shifted c.self.inside.next c.self.inside.count c.self.inside.bytes.now c.args.first c.args.next c.args.self.now c.self.view_is (empty _ c.if-is_empty.ensures) in
    sym (append-nil c.args.out.now.items) ∙ ap (λ bytes. c.args.out.now.items ++ bytes) (sym none)

pub first_number-gap-requires : goal.first_number-gap-requires
first_number-gap-requires c = begins_with_gap_of_posting c.self.inside.next c.self.inside.count c.self.inside.bytes.now c.self.invariant.0 (not_empty _ c.if-is_empty.ensures)

pub overflow_add-first : goal.overflow_add-first
overflow_add-first c =
    let is =
    is_shifted c.self.inside.next c.self.inside.count c.self.inside.bytes.now c.args.first c.args.next c.first_number-gap.result.0 c.first_number-gap.result.1.now c.args.self.now
    c.self.invariant.0 (not_empty _ c.if-is_empty.ensures) c.first_number-gap.ensures c.self.view_is c.requires in
    let fits = is.fits in omega (arith, fits)

pub overflow_add-first-2 : goal.overflow_add-first-2
overflow_add-first-2 c =
    let is =
    is_shifted c.self.inside.next c.self.inside.count c.self.inside.bytes.now c.args.first c.args.next c.first_number-gap.result.0 c.first_number-gap.result.1.now c.args.self.now
    c.self.invariant.0 (not_empty _ c.if-is_empty.ensures) c.first_number-gap.ensures c.self.view_is c.requires in
    let fits = is.fits in omega (arith, fits)

pub overflow_sub-first : goal.overflow_sub-first
overflow_sub-first c =
    let is =
    is_shifted c.self.inside.next c.self.inside.count c.self.inside.bytes.now c.args.first c.args.next c.first_number-gap.result.0 c.first_number-gap.result.1.now c.args.self.now
    c.self.invariant.0 (not_empty _ c.if-is_empty.ensures) c.first_number-gap.ensures c.self.view_is c.requires in
    is.low

pub returns-clause-ok : goal.returns-clause-ok
returns-clause-ok c =
    let is =
    is_shifted c.self.inside.next c.self.inside.count c.self.inside.bytes.now c.args.first c.args.next c.first_number-gap.result.0 c.first_number-gap.result.1.now c.args.self.now
    c.self.invariant.0 (not_empty _ c.if-is_empty.ensures) c.first_number-gap.ensures c.self.view_is c.requires in
    subst (λ (bytes : List ℕ). OnOk c.push_code_and.result (c.push_code_and.new.out.items ≡ c.args.out.now.items ++ bytes)) is.spelled c.push_code_and.ensures.ok

pub returns-clause-full : goal.returns-clause-full
returns-clause-full c =
    let is =
    is_shifted c.self.inside.next c.self.inside.count c.self.inside.bytes.now c.args.first c.args.next c.first_number-gap.result.0 c.first_number-gap.result.1.now c.args.self.now
    c.self.invariant.0 (not_empty _ c.if-is_empty.ensures) c.first_number-gap.ensures c.self.view_is c.requires in
    subst (λ (bytes : List ℕ). OnErr c.push_code_and.result (vec_capacity c.args.out.now < vec_len c.args.out.now + length bytes)) is.spelled c.push_code_and.ensures.full
