use Rattle.std.proofs.Common.{◌-◌, List, ℕ, length, sym, ap, ◌∙◌, subst}
use Rattle.std.proofs.lemmas.List.{take_rest}
use Rattle.ix_vbyte.specs.Walking.{from_document, postings_told}
use Rattle.ix_vbyte.proofs.Places.{LeftAt, entered_at, entered_from, left_at}
use Rattle.ix_vbyte.proofs.cursor.Postings.skip.Goals as goal

pub overflow_sub-self : goal.overflow_sub-self
overflow_sub-self c =
    let passed = rw c.in-Some.is at c.pass_skips-last.ensures.passed in
    (entered_at c.self.inside.next c.self.inside.count c.self.inside.bytes.now c.self.inside.skips.now c.in-Some.skip c.self.invariant.0 c.self.invariant.1 passed.0 c.if-skip-self.true).fits

pub invariant_of-self-2 : goal.invariant_of-self-2
invariant_of-self-2 c =
    let passed = rw c.in-Some.is at c.pass_skips-last.ensures.passed in
    let bytes = c.self.inside.bytes.now in
    let skip = c.in-Some.skip in
    let ahead = c.pass_skips-last.ensures.ahead in
    let entered = entered_at c.self.inside.next c.self.inside.count bytes c.self.inside.skips.now skip c.self.invariant.0 c.self.invariant.1 passed.0 c.if-skip-self.true in
    let left = left_at c.self.inside.next c.self.inside.count bytes c.self.inside.skips.now c.pass_skips-last.result.1.now skip ahead.0 entered c.self.invariant.1 ahead.1 in
    let moved : LeftAt skip.next skip.left _ c.pass_skips-last.result.1.now = subst (λ (bs : List ℕ). LeftAt skip.next skip.left bs c.pass_skips-last.result.1.now) (sym (take_rest bytes (length bytes - skip.size))) left in
    (moved.are, moved.places)

pub returns-then-skip-self : goal.returns-then-skip-self
returns-then-skip-self c =
    let passed = rw c.in-Some.is at c.pass_skips-last.ensures.passed in
    let bytes = c.self.inside.bytes.now in
    let skip = c.in-Some.skip in
    let entered = entered_at c.self.inside.next c.self.inside.count bytes c.self.inside.skips.now skip c.self.invariant.0 c.self.invariant.1 passed.0 c.if-skip-self.true in
    ap (λ bs. from_document c.args.document (postings_told skip.left skip.next bs)) (take_rest bytes (length bytes - skip.size))
    ∙ entered_from c.args.document c.self.inside.next c.self.inside.count bytes skip c.self.invariant.0 entered passed.1
    ∙ ap (from_document c.args.document) c.self.view_is
