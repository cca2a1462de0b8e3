-- Each term is coded behind those before it, until none is left.
use Rattle.std.proofs.Common.{ℕ, [], ◌∷◌, ◌++◌, List, length, ap, ap₂, sym, subst, ◌∙◌, arith}
use Rattle.std.proofs.lemmas.List.{length_push}
use Rattle.std.proofs.lemmas.Result.{err_from_is_err_and}
use Rattle.ix_run.specs.RunFiles.{ReadsAll, read_shown}
use Rattle.ix_run.specs.Runs.{TermValue}
use Rattle.ix_run.proofs.RunFiles.{ReadsOn, has_begun, reads_all, reads_more, reads_none}
use Rattle.ix_run.proofs.read.read_terms.Goals as goal

pub loop-positions-init : goal.loop-positions-init
loop-positions-init g c = rw c.in_ok-terms.ensures (reads_none g.R.Read.remaining c.args.reader.now c.requires.unread c.requires.drained)

pub returns-in_err-next_term-clause-refused : goal.returns-in_err-next_term-clause-refused
returns-in_err-next_term-clause-refused g c entries faces =
    let p = err_from_is_err_and c.from_residual-in_err-next_term.result c.from_residual-in_err-next_term.ensures.1 in
    let ahead = c.loop-positions.invariant.accepted entries faces in
    rw (p.1, p.2) (c.in_err-next_term.ensures.accepted [] ahead.0 ahead.2)

pub returns-clause-read : goal.returns-clause-read
returns-clause-read g c =
    let ok = c.in_ok-next_term.ensures in
    let ends = rw c.if-branch.false at ok.begun in
    subst (ReadsAll g.R.Read.remaining c.args.reader.now) (sym c.fit.ensures)
    (reads_all g.R.Read.remaining c.args.reader.now c.loop-positions.reader c.loop-positions.terms c.loop-positions.invariant c.next_term.new.self ends.2
    (λ entries faces. rw c.if-branch.false at (ok.accepted [] entries faces)))

pub read_term-requires-clause-begun : goal.read_term-requires-clause-begun
read_term-requires-clause-begun g c =
    let begins = rw c.if-branch.true at c.in_ok-next_term.ensures.begun in
    has_begun g.R.Read.remaining c.args.reader.now c.loop-positions.reader c.loop-positions.terms c.loop-positions.invariant c.next_term.new.self begins.0 begins.2

pub returns-in_err-read-clause-refused : goal.returns-in_err-read-clause-refused
returns-in_err-read-clause-refused g c entries faces =
    let p = err_from_is_err_and c.from_residual-in_err-read.result c.from_residual-in_err-read.ensures.1 in
    let ahead = c.loop-positions.invariant.accepted entries faces in
    let first = rw c.if-branch.true at (c.in_ok-next_term.ensures.accepted [] ahead.0 ahead.2) in
    rw (p.1, p.2) (c.in_err-read.ensures.refused first.entry.postings first.rest first.ahead)

pub loop-positions-preserved : goal.loop-positions-preserved
loop-positions-preserved g c =
    let ok = c.in_ok-next_term.ensures in
    let begins = rw c.if-branch.true at ok.begun in
    let values : List TermValue = c.loop-positions.terms in
    let on = reads_more g.R.Read.remaining c.args.reader.now c.loop-positions.reader values c.loop-positions.invariant c.next_term.new.self begins.0 begins.2 c.read_term.new.reader (read_shown c.in_ok-read.read)
    ok.heading c.in_ok-read.ensures.heading begins.1 c.in_ok-read.ensures.given
    (λ entries faces. rw c.if-branch.true at (ok.accepted [] entries faces)) in
    let told : List ℕ → List ℕ → List TermValue = λ term list. values ++ record { term = term; documents = c.in_ok-read.read.documents; last = c.in_ok-read.read.last; list = list } ∷ [] in
    subst (ReadsOn g.R.Read.remaining c.args.reader.now c.read_term.new.reader) (sym (c.in_ok-push.ensures.pushed ∙ ap₂ told c.as_str.ensures.value c.as_slice.ensures.value)) on

pub loop-positions-smaller : goal.loop-positions-smaller
loop-positions-smaller g c =
    let few = (loop-positions-preserved g c).few in
    let one : TermValue = record { term = c.as_str.result.now; documents = c.in_ok-read.read.documents; last = c.in_ok-read.read.last; list = c.as_slice.result.now } in
    omega (arith, few, ap length c.in_ok-push.ensures.pushed, length_push c.loop-positions.terms one)
