-- Each posting that is given is coded behind those before it: what was given is lawful, so that it can be.
use Rattle.std.proofs.Common.{◌≡◌, ℕ, ◌+◌, ◌-◌, ◌^◌, ◌++◌, List, Some, string_bytes, ap, sym, subst, ◌∙◌, arith}
use Rattle.std.proofs.lemmas.Result.{err_from_is_err_and}
use Rattle.ix_text.specs.Parts.{Posting}
use Rattle.ix_vbyte.specs.Gaps.{Ascends}
use Rattle.ix_vbyte.specs.Postings.{posting_bytes}
use Rattle.ix_run.proofs.RunFiles.{list_all, list_more, list_none, may_be_coded}
use Rattle.ix_run.proofs.read.read_term.Goals as goal

pub loop-list-init : goal.loop-list-init
loop-list-init g c = rw c.new-list.ensures.items (list_none g.R.Read.remaining c.args.reader.now)

pub returns-in_err-document-clause-refused : goal.returns-in_err-document-clause-refused
returns-in_err-document-clause-refused g c postings entries faces =
    let p = err_from_is_err_and c.from_residual-in_err-document.result c.from_residual-in_err-document.ensures.1 in
    let ahead = c.loop-list.invariant.accepted postings entries faces in
    rw (p.1, p.2) (c.in_err-document.ensures.accepted ahead.0 entries ahead.2)

pub push_posting-requires-clause-follows : goal.push_posting-requires-clause-follows
push_posting-requires-clause-follows g c =
    let gives = rw c.in-Some.is at c.in_ok-document.ensures.given in
    (may_be_coded g.R.Read.remaining c.args.reader.now c.loop-list.reader c.next_posting.new.self c.loop-list.next c.loop-list.documents c.loop-list.list.items
    (c.in-Some.document, c.next_posting.new.positions.items) c.loop-list.invariant gives c.requires.begun).follows

pub push_posting-requires-clause-low : goal.push_posting-requires-clause-low
push_posting-requires-clause-low g c =
    let gives = rw c.in-Some.is at c.in_ok-document.ensures.given in
    (may_be_coded g.R.Read.remaining c.args.reader.now c.loop-list.reader c.next_posting.new.self c.loop-list.next c.loop-list.documents c.loop-list.list.items
    (c.in-Some.document, c.next_posting.new.positions.items) c.loop-list.invariant gives c.requires.begun).low

pub push_posting-requires-clause-ascending : goal.push_posting-requires-clause-ascending
push_posting-requires-clause-ascending g c =
    let gives = rw c.in-Some.is at c.in_ok-document.ensures.given in
    subst (Ascends 0 (2 ^ 32 - 1)) (sym c.deref.ensures.value)
    (may_be_coded g.R.Read.remaining c.args.reader.now c.loop-list.reader c.next_posting.new.self c.loop-list.next c.loop-list.documents c.loop-list.list.items
    (c.in-Some.document, c.next_posting.new.positions.items) c.loop-list.invariant gives c.requires.begun).ascending

pub overflow_add-next : goal.overflow_add-next
overflow_add-next g c =
    let gives = rw c.in-Some.is at c.in_ok-document.ensures.given in
    let low = (may_be_coded g.R.Read.remaining c.args.reader.now c.loop-list.reader c.next_posting.new.self c.loop-list.next c.loop-list.documents c.loop-list.list.items
    (c.in-Some.document, c.next_posting.new.positions.items) c.loop-list.invariant gives c.requires.begun).low in
    omega (arith, low)

pub overflow_add-documents : goal.overflow_add-documents
overflow_add-documents g c =
    let gives = rw c.in-Some.is at c.in_ok-document.ensures.given in
    let few = (may_be_coded g.R.Read.remaining c.args.reader.now c.loop-list.reader c.next_posting.new.self c.loop-list.next c.loop-list.documents c.loop-list.list.items
    (c.in-Some.document, c.next_posting.new.positions.items) c.loop-list.invariant gives c.requires.begun).few in
    omega (arith, few)

pub loop-list-preserved : goal.loop-list-preserved
loop-list-preserved g c =
    let ok = c.in_ok-document.ensures in
    let gives = rw c.in-Some.is at ok.given in
    let posting : Posting = (c.in-Some.document, c.next_posting.new.positions.items) in
    let grown : c.push_posting.new.out.items ≡ c.loop-list.list.items ++ posting_bytes (c.in-Some.document + 1 - c.loop-list.next) posting =
    c.in_ok-push_posting.ensures.ok
    ∙ ap (λ (positions : List ℕ). let p : Posting = (c.in-Some.document, positions) in c.loop-list.list.items ++ posting_bytes (c.in-Some.document + 1 - c.loop-list.next) p) c.deref.ensures.value in
    list_more g.R.Read.remaining c.args.reader.now c.loop-list.reader c.next_posting.new.self c.loop-list.next c.loop-list.documents c.loop-list.list.items posting c.loop-list.invariant gives
    c.push_posting.new.out.items ok.heading ok.current grown
    (λ postings entries faces. rw c.in-Some.is at (ok.accepted postings entries faces))

pub returns-clause-given : goal.returns-clause-given
returns-clause-given g c =
    let ok = c.in_ok-document.ensures in
    let ends = rw c.in_default.is at ok.given in
    list_all g.R.Read.remaining c.args.reader.now c.loop-list.reader c.next_posting.new.self c.loop-list.next c.loop-list.documents c.saturating_sub.result c.loop-list.list.items (string_bytes c.in_ok-term.term)
    c.loop-list.invariant c.saturating_sub.ensures (c.term.ensures ∙ ap (λ (t : List ℕ). Some t) (sym c.in_ok-term.ensures.ok)) ends.0 ends.1
    (λ postings entries faces. rw c.in_default.is at (ok.accepted postings entries faces))
