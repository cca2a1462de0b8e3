use Rattle.std.proofs.Common.{inl, inr, Ok, Err, ◌∙◌, ◌^◌, ◌≤◌, lit<, map, length, string_bytes, ap, arith}
use Rattle.std.proofs.lemmas.List.{length-map}
use Rattle.std.proofs.lemmas.Result.{err_from_is_err_and}
use Rattle.ix_text.specs.StopSets.{HasTermSize}
use Rattle.ix_text.proofs.CollectionLemmas.{cut_texts}
use Rattle.ix_text.proofs.StopTextLemmas.{line_before_feed, no_feed_left, read_nothing, read_line_more, read_all, few_terms, sizes_of_terms, fault_from_line, fault_from_last, fault_or_memory, All-same_elements}
use Rattle.ix_text.proofs.StopTextLaws.{one_stop_set, refused_for_memory}
use Rattle.ix_text.proofs.stop.StopList.read.Goals as goal

pub loop-line-init : goal.loop-line-init
loop-line-init c = record { lines = read_nothing _ _ (ap (map string_bytes) c.new-terms.ensures.items); characters = c.utf8.text }

pub returns-in_err-read_line-clause-fault : goal.returns-in_err-read_line-clause-fault
returns-in_err-read_line-clause-fault c =
    let short : length c.args.text.now ≤ 2 ^ 28 = c.if-text-gt-MAX_TEXT_BYTES.false in
    let cut = line_before_feed c.loop-line.left.now c.in-Some.line c.in-Some.next c.in-Some.ensures.cases in
    let p = err_from_is_err_and c.from_residual.result c.from_residual.ensures.1 in
    rw (p.1, p.2)
    (fault_or_memory c.args.text.now c.in-Some.line.now c.loop-line.number c.in_err-read_line.field-0.0
    (fault_from_line c.args.text.now c.loop-line.number _ c.loop-line.left.now c.in-Some.line.now c.in-Some.next.now c.in_err-read_line.field-0.0 short c.loop-line.invariant.lines cut.0 cut.1)
    c.in_err-read_line.ensures.fault)

pub loop-line-preserved : goal.loop-line-preserved
loop-line-preserved c =
    let cut = line_before_feed c.loop-line.left.now c.in-Some.line c.in-Some.next c.in-Some.ensures.cases in
    record {
      lines = read_line_more _ c.loop-line.number _ _ c.loop-line.left.now c.in-Some.line.now c.in-Some.next.now c.loop-line.invariant.lines cut.0 cut.1 c.in_ok-read_line.ensures.line c.in_ok-read_line.ensures.terms;
      characters = (cut_texts c.loop-line.left.now 10 c.in-Some.line.now c.in-Some.next.now cut.0 (lit< tt) c.loop-line.invariant.characters).1;
    }

pub returns-in_err-read_line-2-clause-fault : goal.returns-in_err-read_line-2-clause-fault
returns-in_err-read_line-2-clause-fault c =
    let short : length c.args.text.now ≤ 2 ^ 28 = c.if-text-gt-MAX_TEXT_BYTES.false in
    let last = no_feed_left c.loop-line.left.now c.in_default.ensures.cases in
    let p = err_from_is_err_and c.from_residual-in_err-read_line-2.result c.from_residual-in_err-read_line-2.ensures.1 in
    rw (p.1, p.2)
    (fault_or_memory c.args.text.now c.loop-line.left.now c.loop-line.number c.in_err-read_line-2.field-0.0
    (fault_from_last c.args.text.now c.loop-line.number _ c.loop-line.left.now c.in_err-read_line-2.field-0.0 short c.loop-line.invariant.lines last)
    c.in_err-read_line-2.ensures.fault)

pub from_sorted-requires-clause-few : goal.from_sorted-requires-clause-few
from_sorted-requires-clause-few c =
    let short : length c.args.text.now ≤ 2 ^ 28 = c.if-text-gt-MAX_TEXT_BYTES.false in
    let few = few_terms _ _ _ _ _ c.loop-line.invariant.lines c.in_ok-read_line-2.ensures.line c.in_ok-read_line-2.ensures.terms in
    let all = length-map c.read_line-2.new.terms.items string_bytes in
    omega (arith, c.sort.ensures.fewer, few, all)

pub from_sorted-requires-clause-sizes : goal.from_sorted-requires-clause-sizes
from_sorted-requires-clause-sizes c =
    All-same_elements HasTermSize _ _ c.sort.ensures.same
    (sizes_of_terms _ _ _ _ _ c.loop-line.invariant.lines c.in_ok-read_line-2.ensures.line c.in_ok-read_line-2.ensures.terms)

pub returns-clause-terms : goal.returns-clause-terms
returns-clause-terms c =
    let short : length c.args.text.now ≤ 2 ^ 28 = c.if-text-gt-MAX_TEXT_BYTES.false in
    let last = no_feed_left c.loop-line.left.now c.in_default.ensures.cases in
    rw c.from_sorted.ensures
    (read_all c.args.text.now c.loop-line.number _ _ c.loop-line.left.now _ short c.loop-line.invariant.lines last c.in_ok-read_line-2.ensures.line c.in_ok-read_line-2.ensures.terms c.sort.ensures.ascending c.sort.ensures.same)

pub returns-in_err-read_line-clause-accepted : goal.returns-in_err-read_line-clause-accepted
returns-in_err-read_line-clause-accepted c stop read =
    let short : length c.args.text.now ≤ 2 ^ 28 = c.if-text-gt-MAX_TEXT_BYTES.false in
    let cut = line_before_feed c.loop-line.left.now c.in-Some.line c.in-Some.next c.in-Some.ensures.cases in
    let p = err_from_is_err_and c.from_residual.result c.from_residual.ensures.1 in
    let faults =
    fault_or_memory c.args.text.now c.in-Some.line.now c.loop-line.number c.in_err-read_line.field-0.0
    (fault_from_line c.args.text.now c.loop-line.number _ c.loop-line.left.now c.in-Some.line.now c.in-Some.next.now c.in_err-read_line.field-0.0 short c.loop-line.invariant.lines cut.0 cut.1)
    c.in_err-read_line.ensures.fault in
    rw (p.1, p.2) (inr (ap Err (refused_for_memory c.args.text.now stop c.in_err-read_line.field-0.0 read faults)))

pub returns-in_err-read_line-2-clause-accepted : goal.returns-in_err-read_line-2-clause-accepted
returns-in_err-read_line-2-clause-accepted c stop read =
    let short : length c.args.text.now ≤ 2 ^ 28 = c.if-text-gt-MAX_TEXT_BYTES.false in
    let last = no_feed_left c.loop-line.left.now c.in_default.ensures.cases in
    let p = err_from_is_err_and c.from_residual-in_err-read_line-2.result c.from_residual-in_err-read_line-2.ensures.1 in
    let faults =
    fault_or_memory c.args.text.now c.loop-line.left.now c.loop-line.number c.in_err-read_line-2.field-0.0
    (fault_from_last c.args.text.now c.loop-line.number _ c.loop-line.left.now c.in_err-read_line-2.field-0.0 short c.loop-line.invariant.lines last)
    c.in_err-read_line-2.ensures.fault in
    rw (p.1, p.2) (inr (ap Err (refused_for_memory c.args.text.now stop c.in_err-read_line-2.field-0.0 read faults)))

pub returns-clause-accepted : goal.returns-clause-accepted
returns-clause-accepted c stop read =
    let short : length c.args.text.now ≤ 2 ^ 28 = c.if-text-gt-MAX_TEXT_BYTES.false in
    let last = no_feed_left c.loop-line.left.now c.in_default.ensures.cases in
    let mine =
    read_all c.args.text.now c.loop-line.number _ _ c.loop-line.left.now _ short c.loop-line.invariant.lines last c.in_ok-read_line-2.ensures.line c.in_ok-read_line-2.ensures.terms c.sort.ensures.ascending c.sort.ensures.same in
    inl (ap Ok (c.from_sorted.ensures ∙ one_stop_set c.args.text.now _ stop mine read))
