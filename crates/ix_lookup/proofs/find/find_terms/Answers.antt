use Rattle.std.proofs.Common.{◌≡◌, ◌≢◌, ◌⊎◌, List, [], inl, inr, ◌∙◌, arith, subst, sym}
use Rattle.std.proofs.lemmas.Grind.{common_steps}
use Rattle.ix_lookup.specs.Pieces.{rest_in}
use Rattle.ix_lookup.specs.declared.found_term.FoundTerm.{FoundTerm}
use Rattle.ix_lookup.proofs.ScanLemmas.{IsScanned, scan_begins, scan_reads_on, scan_goes_on, no_row, long_list, wrong_end, found_all, found_before}
use Rattle.ix_lookup.proofs.find.find_terms.Goals as goal
use Rattle.ix_lookup.proofs.find.find_terms.Goals.{then-not-is_empty-via-then-not-is_empty, then-not-is_empty-via-else-not-is_empty+then-start-dictionary}

pub loop-place-init : goal.loop-place-init
loop-place-init g c =
    let dictionary = c.args.dictionary.now in
    let wants = g.M.TermMatcher.wants c.args.matcher.now in
    let is_at = g.M.TermMatcher.is_at c.args.matcher.now in
    subst (λ (found : List FoundTerm). IsScanned dictionary (g.S.ReadAt.contents c.args.source.now) wants wants is_at 0 0 c.new-pieces.result found)
    (sym c.new-found.ensures.items)
    (scan_begins dictionary (g.S.ReadAt.contents c.args.source.now) wants is_at c.new-pieces.result c.requires.begun c.new-pieces.ensures)

pub returns-in_default-clause-refused : goal.returns-in_default-clause-refused
returns-in_default-clause-refused g c = λ malformed.
    let scanned = scan_reads_on _ _ _ _ _ _ _ _ _ c.loop-place.invariant c.fill.new.self c.in_ok-fill.ensures.same in
    no_row _ _ _ _ _ _ _ _ _ scanned c.rest.result.now c.loop-place-test.true c.in_ok-fill.ensures.filled c.rest.ensures c.in_default.ensures

pub returns-then-row-dictionary-clause-refused : goal.returns-then-row-dictionary-clause-refused
returns-then-row-dictionary-clause-refused g c = λ malformed.
    let scanned = scan_reads_on _ _ _ _ _ _ _ _ _ c.loop-place.invariant c.fill.new.self c.in_ok-fill.ensures.same in
    long_list _ _ _ _ _ _ _ _ _ scanned c.rest.result.now c.in-Some.row c.loop-place-test.true c.in_ok-fill.ensures.filled c.rest.ensures c.in-Some.ensures c.if-row-dictionary.true

pub loop-place-preserved : goal.loop-place-preserved
loop-place-preserved g c =
    let scanned = scan_reads_on _ _ _ _ _ _ _ _ _ c.loop-place.invariant c.fill.new.self c.in_ok-fill.ensures.same in
    scan_goes_on _ _ _ _ _ _ _ _ _ scanned c.in-Some.row _ _ _ c.rest.result.now c.keep.new.self (record { rest = c.keep.ensures.rest; unread = c.keep.ensures.unread; start = c.keep.ensures.start })
    c.loop-place-test.true c.in_ok-fill.ensures.filled c.rest.ensures c.in-Some.ensures c.if-row-dictionary.false c.in_ok-note.ensures.same c.in_ok-note.ensures.moved c.in_ok-note.ensures.noted c.in_ok-note.ensures.kept

pub returns-then-is_past-clause-found : goal.returns-then-is_past-clause-found
returns-then-is_past-clause-found g c =
    let scanned = scan_reads_on _ _ _ _ _ _ _ _ _ c.loop-place.invariant c.fill.new.self c.in_ok-fill.ensures.same in
    let after = scan_goes_on _ _ _ _ _ _ _ _ _ scanned c.in-Some.row _ _ _ c.rest.result.now c.keep.new.self (record { rest = c.keep.ensures.rest; unread = c.keep.ensures.unread; start = c.keep.ensures.start })
    c.loop-place-test.true c.in_ok-fill.ensures.filled c.rest.ensures c.in-Some.ensures c.if-row-dictionary.false c.in_ok-note.ensures.same c.in_ok-note.ensures.moved c.in_ok-note.ensures.noted c.in_ok-note.ensures.kept in
    found_before _ _ _ _ _ _ _ _ _ after (c.is_past.ensures c.if-is_past.true)

pub returns-then-is_past-clause-within : goal.returns-then-is_past-clause-within
returns-then-is_past-clause-within g c =
    let scanned = scan_reads_on _ _ _ _ _ _ _ _ _ c.loop-place.invariant c.fill.new.self c.in_ok-fill.ensures.same in
    let after = scan_goes_on _ _ _ _ _ _ _ _ _ scanned c.in-Some.row (g.M.TermMatcher.wants c.note.new.matcher) (g.M.TermMatcher.is_at c.note.new.matcher) c.note.new.found.items c.rest.result.now c.keep.new.self (record { rest = c.keep.ensures.rest; unread = c.keep.ensures.unread; start = c.keep.ensures.start })
    c.loop-place-test.true c.in_ok-fill.ensures.filled c.rest.ensures c.in-Some.ensures c.if-row-dictionary.false c.in_ok-note.ensures.same c.in_ok-note.ensures.moved c.in_ok-note.ensures.noted c.in_ok-note.ensures.kept in
    after.within

pub returns-then-is_past-clause-few : goal.returns-then-is_past-clause-few
returns-then-is_past-clause-few g c =
    let scanned = scan_reads_on _ _ _ _ _ _ _ _ _ c.loop-place.invariant c.fill.new.self c.in_ok-fill.ensures.same in
    let after = scan_goes_on _ _ _ _ _ _ _ _ _ scanned c.in-Some.row (g.M.TermMatcher.wants c.note.new.matcher) (g.M.TermMatcher.is_at c.note.new.matcher) c.note.new.found.items c.rest.result.now c.keep.new.self (record { rest = c.keep.ensures.rest; unread = c.keep.ensures.unread; start = c.keep.ensures.start })
    c.loop-place-test.true c.in_ok-fill.ensures.filled c.rest.ensures c.in-Some.ensures c.if-row-dictionary.false c.in_ok-note.ensures.same c.in_ok-note.ensures.moved c.in_ok-note.ensures.noted c.in_ok-note.ensures.kept in
    omega (arith, after.few)

pub returns-then-not-is_empty-clause-refused : goal.returns-then-not-is_empty-clause-refused
returns-then-not-is_empty-clause-refused g c = λ malformed.
    let scanned = scan_reads_on _ _ _ _ _ _ _ _ _ c.loop-place.invariant c.fill-2.new.self c.in_ok-fill-2.ensures.same in
    let wrong : (rest_in c.fill-2.new.self ≢ []) ⊎ (c.loop-place.start ≢ c.args.dictionary.now.postings) =
    elim c.then-not-is_empty.branch [
      | then-not-is_empty-via-then-not-is_empty w ↦ inl (λ none. let same : c.rest-2.result.now ≡ [] = c.rest-2.ensures ∙ none in grind (arith, common_steps, w.if-not-is_empty.true, same))
      | then-not-is_empty-via-else-not-is_empty+then-start-dictionary w ↦ inr w.if-start-dictionary.true
    ] in
    wrong_end _ _ _ _ _ _ _ _ _ scanned c.loop-place-test.false (omega arith) wrong

pub returns-clause-found : goal.returns-clause-found
returns-clause-found g c =
    let scanned = scan_reads_on _ _ _ _ _ _ _ _ _ c.loop-place.invariant c.fill-2.new.self c.in_ok-fill-2.ensures.same in
    found_all _ _ _ _ _ _ _ _ _ scanned c.loop-place-test.false (omega arith)
