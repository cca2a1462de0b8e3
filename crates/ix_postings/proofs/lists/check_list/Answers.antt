-- One posting more, or why there is none.
use Rattle.std.proofs.Common.{◌+◌, ◌-◌, ◌≤◌, ℕ, List, length, length-drop, sym, subst, arith}
use Rattle.std.proofs.lemmas.List.{take_rest}
use Rattle.std.proofs.lemmas.Result.{err_from_is_err_and}
use Rattle.ix_postings.proofs.CheckedLists.{GoneOver, gone_more, gone_none, nothing_left, sees_list, stands_next}
use Rattle.ix_postings.proofs.NextPostings.{near_next}
use Rattle.ix_postings.proofs.lists.check_list.Goals as goal

pub loop-init : goal.loop-init
loop-init g c = record {
  within = c.requires.within;
  near = omega arith;
  room = λ top. (λ has. has, λ has. has);
  gone = λ rows has. gone_none g.S.SeenTokens.admits (g.S.SeenTokens.has_seen c.args.seen.now) rows c.args.bytes.now c.args.size c.args.documents;
}

pub check_posting-requires-clause-ready : goal.check_posting-requires-clause-ready
check_posting-requires-clause-ready g c =
    let ready = c.requires.ready in
    record { rows = ready.rows; has = ready.has; few_documents = ready.few_documents; few_tokens = ready.few_tokens; room = (c.loop.invariant.room _).0 ready.room }

pub returns-in_err-document-clause-room : goal.returns-in_err-document-clause-room
returns-in_err-document-clause-room g c top =
    let now = c.check_posting.ensures.room top in
    let before = c.loop.invariant.room top in
    (λ has. now.0 (before.0 has), λ has. before.1 (now.1 has))

pub returns-in_err-document-clause-accepted : goal.returns-in_err-document-clause-accepted
returns-in_err-document-clause-accepted g c rows has stands =
    let loop = c.loop in
    let next = stands_next g.S.SeenTokens.admits g.met.S.SeenTokens.front_admitted (g.S.SeenTokens.has_seen c.args.seen.now) (g.S.SeenTokens.has_seen loop.seen) rows c.args.bytes.now loop.rest.now c.args.size loop.left c.args.documents loop.counter loop.next (loop.invariant.gone rows has) stands c.loop-test.true in
    let p = err_from_is_err_and c.from_residual.result c.from_residual.ensures.1 in
    rw (p.1, p.2) (next.fails c.in_err-document.field-0.0 (c.in_err-document.ensures.accepted rows next.numbers next.posting next.missing next.behind has next.held next.fits next.free next.spelled))

pub overflow_add-next : goal.overflow_add-next
overflow_add-next g c =
    let ready = c.requires.ready in
    let read = c.in_ok-document.ensures.read in
    let near = near_next ready.rows c.loop.next (c.in_ok-document.document, read.positions) (read.fits ready.rows ready.has) ready.few_documents in
    omega (arith, near)

pub loop-preserved : goal.loop-preserved
loop-preserved g c =
    let loop = c.loop in
    let ready = c.requires.ready in
    let ok = c.in_ok-document.ensures in
    let read = ok.read in
    let document = c.in_ok-document.document in
    let taken = c.in_ok-document.taken in
    let admits = g.S.SeenTokens.admits in
    let old = g.S.SeenTokens.has_seen c.args.seen.now in
    let new = g.S.SeenTokens.has_seen c.check_posting.new.seen in
    let same = sym (take_rest loop.rest.now taken) in
    record {
      within = subst (λ (rest : List ℕ). loop.left - taken ≤ length rest) same (let within = loop.invariant.within in omega (arith, within, length-drop taken loop.rest.now));
      near = near_next ready.rows loop.next (document, read.positions) (read.fits ready.rows ready.has) ready.few_documents;
      room = λ top. (λ has. (ok.room top).0 ((loop.invariant.room top).0 has), λ has. (loop.invariant.room top).1 ((ok.room top).1 has));
      gone = λ rows has.
          subst (λ (rest : List ℕ). GoneOver admits old new rows c.args.bytes.now rest c.args.size (loop.left - taken) c.args.documents (loop.counter + 1) (document + 1)) same
          (gone_more admits g.met.S.SeenTokens.front_admitted old (g.S.SeenTokens.has_seen loop.seen) rows c.args.bytes.now loop.rest.now c.args.size loop.left c.args.documents loop.counter loop.next (loop.invariant.gone rows has)
          c.args.tokens.now has document taken new read ok.size c.loop-test.true);
    }

pub returns-then-left-gt0-clause-accepted : goal.returns-then-left-gt0-clause-accepted
returns-then-left-gt0-clause-accepted g c rows has stands =
    let loop = c.loop in
    let none = nothing_left g.S.SeenTokens.admits g.met.S.SeenTokens.front_admitted (g.S.SeenTokens.has_seen c.args.seen.now) (g.S.SeenTokens.has_seen loop.seen) rows c.args.bytes.now loop.rest.now c.args.size loop.left c.args.documents loop.counter loop.next (loop.invariant.gone rows has) stands
    (omega (arith, c.loop-test.false, c.loop.auto.counter-end)) loop.invariant.within in
    absurd (omega (arith, none, c.if-left-gt0.true))

pub returns-clause-read : goal.returns-clause-read
returns-clause-read g c rows has =
    let loop = c.loop in
    sees_list g.S.SeenTokens.admits g.met.S.SeenTokens.front_admitted (g.S.SeenTokens.has_seen c.args.seen.now) (g.S.SeenTokens.has_seen loop.seen) rows c.args.bytes.now loop.rest.now c.args.size loop.left c.args.documents loop.counter loop.next (loop.invariant.gone rows has)
    (omega (arith, c.loop-test.false, c.loop.auto.counter-end)) (omega (arith, c.if-left-gt0.false))
