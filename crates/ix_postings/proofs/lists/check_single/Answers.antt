-- The document's tokens may be seen, and the one seen is the posting's.
use Rattle.std.proofs.Common.{◌≡◌, ℕ, ◌-◌, ◌∷◌, ◌++◌, [], List, arith, sym, subst, refl}
use Rattle.std.proofs.lemmas.Result.{err_from_is_err_and}
use Rattle.ix_postings.specs.SeenTokens.{SeesMore}
use Rattle.ix_postings.specs.TokenTables.{IsSpan}
use Rattle.ix_postings.proofs.NextPostings.{ascends_single, document_within, few_documents, numbers_single, span_within}
use Rattle.ix_postings.proofs.lists.check_single.Goals as goal

pub returns-in_default-clause-accepted : goal.returns-in_default-clause-accepted
returns-in_default-clause-accepted g c rows numbers posting has held fits free gap only =
    let tokens = c.args.tokens.now in
    let past = c.in_default.ensures rows has (few_documents tokens _ c.requires.ready rows has c.args.next posting fits) in
    absurd (omega (arith, past, gap, fits.above, document_within tokens _ c.requires.ready rows has c.args.next posting fits))

pub returns-then-position_gap-count-clause-accepted : goal.returns-then-position_gap-count-clause-accepted
returns-then-position_gap-count-clause-accepted g c rows numbers posting has held fits free gap only =
    let found = c.in-Some.ensures rows has in
    let same : c.in-Some.document ≡ posting.0 = omega (arith, found.0, gap, fits.above) in
    let span = subst (λ (document : ℕ). IsSpan rows document c.in-Some.span) same found.1 in
    absurd (omega (arith, c.if-position_gap-count.true, ascends_single c.args.tokens.now _ c.requires.ready rows has c.args.next posting fits c.args.position_gap c.in-Some.span span only, c.requires.some.1))

pub overflow_add-first : goal.overflow_add-first
overflow_add-first g c =
    let ready = c.requires.ready in
    let found = c.in-Some.ensures ready.rows ready.has in
    omega (arith, span_within ready.rows c.in-Some.document c.in-Some.span found.1, ready.few_tokens, c.if-position_gap-count.false)

pub see-requires : goal.see-requires
see-requires g c =
    let ready = c.requires.ready in
    let found = c.in-Some.ensures ready.rows ready.has in
    (_, ready.room, omega (arith, span_within ready.rows c.in-Some.document c.in-Some.span found.1, c.if-position_gap-count.false, c.requires.some.1))

pub returns-in_err-see-clause-accepted : goal.returns-in_err-see-clause-accepted
returns-in_err-see-clause-accepted g c rows numbers posting has held fits free gap only =
    let found = c.in-Some.ensures rows has in
    let same : c.in-Some.document ≡ posting.0 = omega (arith, found.0, gap, fits.above) in
    let span = subst (λ (document : ℕ). IsSpan rows document c.in-Some.span) same found.1 in
    let p = err_from_is_err_and c.from_residual.result c.from_residual.ensures.1 in
    rw (p.1, p.2)
    (c.in_err-see.ensures.accepted numbers held
    (subst (λ (more : List ℕ). g.S.SeenTokens.admits (numbers ++ more)) (numbers_single rows posting.0 c.args.position_gap posting.1 c.in-Some.span span only) free))

pub returns-clause-seen : goal.returns-clause-seen
returns-clause-seen g c rows has =
    let found = c.in-Some.ensures rows has in
    subst (SeesMore g.S.SeenTokens.admits (g.S.SeenTokens.has_seen c.args.seen.now) (g.S.SeenTokens.has_seen c.see.new.self))
    (sym (numbers_single rows c.in-Some.document c.args.position_gap ((c.args.position_gap - 1) ∷ []) c.in-Some.span found.1 refl)) c.in_ok-see.ensures.seen
