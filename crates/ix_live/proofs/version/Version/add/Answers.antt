use Rattle.std.proofs.Common.{rules, ◌≡◌, ℕ, ◌+◌, ◌<◌, ◌≤◌, ◌^◌, ◌∙◌, List, [], ◌∷◌, ◌++◌, ap, arith, inl, length, take}
use Rattle.std.specs.Arc.{arc_value}
use Rattle.std.proofs.lemmas.List.{length-map}
use Rattle.ix_text.specs.Docs.{named_text}
use Rattle.std.specs.Prelude.{Option}
use Rattle.ix_live.specs.declared.entry.Entry.{Entry}
use Rattle.ix_live.specs.declared.entry.Entry.TheVariants.{Added}
use Rattle.ix_live.specs.declared.segment.Segment.{Segment}
use Rattle.ix_live.specs.Histories.{operations_of, waiting}
use Rattle.ix_live.specs.Operations.{Add}
use Rattle.ix_live.specs.Growing.{documents_under}
use Rattle.ix_live.specs.LiveErrors.{RefusesAddition}
use Rattle.ix_live.specs.declared.live_error.LiveError.TheVariants.{Memory}
use Rattle.ix_live.specs.Pieces.{after_adding, pieces_in}
use Rattle.ix_live.specs.Segments.{rows_in}
use Rattle.ix_live.proofs.Falling.{after_none}
use Rattle.ix_live.proofs.Pasts.{none_waiting, operations_waiting}
use Rattle.ix_live.proofs.StoredLemmas.{addition_some, documents_counted, few_enough, passed_on, pieces_grown, refused_addition, room_left, stored_is, stored_more, too_many}
use Rattle.ix_live.proofs.version.Version.add.Goals as goal

pub returns-then-count-eq0-clause-added : goal.returns-then-count-eq0-clause-added
returns-then-count-eq0-clause-added g c =
    let stop = c.args.self.now.stop in
    let texts = c.args.documents.now in
    none_waiting c.args.self.now.past (documents_under stop texts)
    (omega (arith, c.if-count-eq0.true, documents_counted stop texts, ap length c.docs-count.ensures.documents, length-map c.docs-count.result.now named_text))

pub returns-then-count-self-clause-error : goal.returns-then-count-self-clause-error
returns-then-count-self-clause-error g c =
    let v = c.self.inside in
    let stop = arc_value v.stop in
    let texts = c.args.documents.now in
    let size : length c.docs-count.result.now ≡ length (documents_under stop texts) = omega (arith, documents_counted stop texts, ap length c.docs-count.ensures.documents, length-map c.docs-count.result.now named_text) in
    let many = too_many stop v.segments.items v.entries.items v.removed.items v.count v.tokens (operations_of v.past) c.self.invariant (documents_under stop texts) (length c.docs-count.result.now) size (omega (arith, c.if-count-self.true, c.self.invariant.few)) in
    rw (← c.self.view_is) (inl many)

pub returns-in-Err-clause-error : goal.returns-in-Err-clause-error
returns-in-Err-clause-error g c =
    let v = c.self.inside in
    let stop = arc_value v.stop in
    let refused = rw (c.deref.ensures, c.as_slice-table.ensures.value) at c.in-Err.ensures.refused in
    rw (← c.self.view_is)
    (refused_addition stop v.segments.items v.entries.items v.removed.items v.count v.tokens (operations_of v.past) c.self.invariant c.args.plan.now.workers (documents_under stop c.args.documents.now) c.in-Err.error refused)

pub push-requires : goal.push-requires
push-requires g c =
    let v = c.self.inside in
    let few : length (rows_in v.segments.items) ≤ 2 ^ 28 = omega (arith, c.self.invariant.counted, c.self.invariant.few) in
    let room = room_left v.segments.items c.in-Ok.grown.left c.self.invariant.falling few in
    (omega arith, omega (arith, room, ap length c.truncate.ensures.items))

pub invariant_of-self-2 : goal.invariant_of-self-2
invariant_of-self-2 g c =
    let v = c.self.inside in
    let stop = arc_value v.stop in
    let texts = c.args.documents.now in
    let documents = documents_under stop texts in
    let count = length c.docs-count.result.now in
    let size : count ≡ length documents = omega (arith, documents_counted stop texts, ap length c.docs-count.ensures.documents, length-map c.docs-count.result.now named_text) in
    let grows = rw (c.deref.ensures, c.as_slice-table.ensures.value) at c.in-Ok.ensures.grown in
    let more = rw c.deref.ensures at c.in-Ok.ensures.tokens in
    let segments : c.push.new.self.items ≡ take c.in-Ok.grown.left v.segments.items ++ c.in-Ok.grown.slot ∷ [] =
    c.push.ensures.items ∙ ap (λ (l : List (Option Segment)). l ++ c.in-Ok.grown.slot ∷ []) c.truncate.ensures.items in
    let kept : c.reserve.new.self.items ≡ v.entries.items = search rules in
    let entries : c.push_reserved.new.self.items ≡ v.entries.items ++ Added count ∷ [] = c.push_reserved.ensures.items ∙ ap (λ (l : List Entry). l ++ Added count ∷ []) kept in
    let past : c.with_addition.result ≡ waiting v.past (Add documents ∷ []) = rw c.deref-2.ensures at c.with_addition.ensures in
    let operations : operations_of c.with_addition.result ≡ operations_of v.past ++ Add documents ∷ [] = ap operations_of past ∙ operations_waiting v.past (Add documents ∷ []) in
    stored_is stop (take c.in-Ok.grown.left v.segments.items ++ c.in-Ok.grown.slot ∷ []) c.push.new.self.items (v.entries.items ++ Added count ∷ []) c.push_reserved.new.self.items v.removed.items (v.count + count)
    (v.tokens + c.in-Ok.grown.tokens) ((operations_of v.past) ++ Add documents ∷ []) (operations_of c.with_addition.result) segments entries operations
    (stored_more stop v.segments.items v.entries.items v.removed.items v.count v.tokens (operations_of v.past) c.self.invariant documents c.in-Ok.grown.left c.in-Ok.grown.tokens count c.in-Ok.grown.slot grows size more
    (omega (arith, c.if-count-self.false, c.self.invariant.few)) c.in-Ok.ensures.few)

pub returns-clause-added : goal.returns-clause-added
returns-clause-added g c =
    let v = c.self.inside in
    let stop = arc_value v.stop in
    let texts = c.args.documents.now in
    let documents = documents_under stop texts in
    let some : 0 < length documents =
    omega (arith, c.if-count-eq0.false, documents_counted stop texts, ap length c.docs-count.ensures.documents, length-map c.docs-count.result.now named_text) in
    let past : c.with_addition.result ≡ waiting v.past (Add documents ∷ []) = rw c.deref-2.ensures at c.with_addition.ensures in
    rw (← c.self.view_is) (past ∙ ap (waiting v.past) (addition_some documents some))

pub returns-then-count-eq0-clause-pieces : goal.returns-then-count-eq0-clause-pieces
returns-then-count-eq0-clause-pieces g c = after_none _ _ (omega (arith, c.if-count-eq0.true, ap length c.docs-count.ensures.documents, length-map c.docs-count.result.now named_text))

pub returns-clause-pieces : goal.returns-clause-pieces
returns-clause-pieces g c =
    let v = c.self.inside in
    let stop = arc_value v.stop in
    let texts = c.args.documents.now in
    let grows = rw (c.deref.ensures, c.as_slice-table.ensures.value) at c.in-Ok.ensures.grown in
    let segments : c.push.new.self.items ≡ take c.in-Ok.grown.left v.segments.items ++ c.in-Ok.grown.slot ∷ [] =
    c.push.ensures.items ∙ ap (λ (l : List (Option Segment)). l ++ c.in-Ok.grown.slot ∷ []) c.truncate.ensures.items in
    rw (← c.self.view_is)
    (ap pieces_in segments ∙ pieces_grown stop v.segments.items (documents_under stop texts) c.in-Ok.grown.left c.in-Ok.grown.slot grows ∙ ap (λ (n : ℕ). after_adding n (pieces_in v.segments.items)) (documents_counted stop texts))

pub returns-then-count-eq0-clause-few : goal.returns-then-count-eq0-clause-few
returns-then-count-eq0-clause-few g c =
    let v = c.self.inside in
    rw (← c.self.view_is)
    (few_enough (arc_value v.stop) v.segments.items v.entries.items v.removed.items v.count v.tokens (operations_of v.past) c.self.invariant (length c.args.documents.now) (length c.docs-count.result.now)
    (omega (arith, ap length c.docs-count.ensures.documents, length-map c.docs-count.result.now named_text)) (omega (arith, c.if-count-self.false, c.self.invariant.few)))

pub returns-clause-few : goal.returns-clause-few
returns-clause-few g c =
    let v = c.self.inside in
    rw (← c.self.view_is)
    (few_enough (arc_value v.stop) v.segments.items v.entries.items v.removed.items v.count v.tokens (operations_of v.past) c.self.invariant (length c.args.documents.now) (length c.docs-count.result.now)
    (omega (arith, ap length c.docs-count.ensures.documents, length-map c.docs-count.result.now named_text)) (omega (arith, c.if-count-self.false, c.self.invariant.few)))

pub returns-in_err-reserve-clause-error : goal.returns-in_err-reserve-clause-error
returns-in_err-reserve-clause-error g c =
    let v = c.self.inside in
    let stop = arc_value v.stop in
    let texts = c.args.documents.now in
    let size : length c.docs-count.result.now ≡ length (documents_under stop texts) = omega (arith, documents_counted stop texts, ap length c.docs-count.ensures.documents, length-map c.docs-count.result.now named_text) in
    let few = few_enough stop v.segments.items v.entries.items v.removed.items v.count v.tokens (operations_of v.past) c.self.invariant (length (documents_under stop texts)) (length c.docs-count.result.now) size (omega (arith, c.if-count-self.false, c.self.invariant.few)) in
    rw (← c.self.view_is)
    (passed_on (RefusesAddition c.args.plan.now.workers (operations_of v.past) (documents_under stop texts)) c.from_residual.result Memory c.from_residual.ensures.1 few)
