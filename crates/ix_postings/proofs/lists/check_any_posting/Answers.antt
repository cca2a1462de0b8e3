-- A posting that stands first and may come next is refused by none of its parts.
use Rattle.std.proofs.Common.{◌≡◌, ◌≤◌, ◌^◌, ◌+◌, ◌-◌, ◌++◌, ℕ, List, length, take, drop, ap, ◌∙◌, arith, subst}
use Rattle.std.proofs.lemmas.List.{take_rest}
use Rattle.std.proofs.lemmas.Result.{err_from_is_err_and}
use Rattle.ix_postings.specs.TokenTables.{IsSpan}
use Rattle.ix_vbyte.specs.ShortPostings.{BeginsWithShort}
use Rattle.ix_postings.specs.CheckedLists.{SeesPositions}
use Rattle.ix_postings.proofs.CheckedPostings.{cut_in_count, cut_in_gap, fails_in_positions, sees_parts}
use Rattle.ix_postings.proofs.NextPostings.{behind_count, behind_gap, count_fits, document_within, few_documents, gap_fits, gap_some, positions_next, posting_parts, span_within}
use Rattle.ix_postings.proofs.lists.check_any_posting.Goals as goal

pub returns-in_err-gap-clause-accepted : goal.returns-in_err-gap-clause-accepted
returns-in_err-gap-clause-accepted g c rows numbers posting missing rest has held fits free e =
    let ready = c.requires.ready in
    let gap = posting.0 + 1 - c.args.next in
    let p = err_from_is_err_and c.from_residual.result c.from_residual.ensures.1 in
    rw (p.1, p.2)
    (cut_in_gap c.args.bytes.now gap posting c.in_err-gap.field-0.0
    (c.in_err-gap.ensures.accepted gap missing (behind_gap posting rest) (gap_some c.args.tokens.now _ ready rows has c.args.next posting fits) (gap_fits c.args.tokens.now _ ready rows has c.args.next posting fits) (e ∙ posting_parts gap posting rest)))

pub returns-in_default-clause-accepted : goal.returns-in_default-clause-accepted
returns-in_default-clause-accepted g c rows numbers posting missing rest has held fits free e =
    let ready = c.requires.ready in
    let gap = posting.0 + 1 - c.args.next in
    let one = c.in_ok-gap.ensures.accepted gap missing (behind_gap posting rest) (gap_some c.args.tokens.now _ ready rows has c.args.next posting fits) (gap_fits c.args.tokens.now _ ready rows has c.args.next posting fits) (e ∙ posting_parts gap posting rest) in
    let past = c.in_default.ensures rows has (few_documents c.args.tokens.now _ ready rows has c.args.next posting fits) in
    absurd (omega (arith, past, one.0, fits.above, document_within c.args.tokens.now _ ready rows has c.args.next posting fits))

pub returns-in_err-count-clause-accepted : goal.returns-in_err-count-clause-accepted
returns-in_err-count-clause-accepted g c rows numbers posting missing rest has held fits free e =
    let ready = c.requires.ready in
    let bytes = c.args.bytes.now in
    let gap = posting.0 + 1 - c.args.next in
    let one = c.in_ok-gap.ensures.accepted gap missing (behind_gap posting rest) (gap_some c.args.tokens.now _ ready rows has c.args.next posting fits) (gap_fits c.args.tokens.now _ ready rows has c.args.next posting fits) (e ∙ posting_parts gap posting rest) in
    let found = c.in-Some.ensures rows has in
    let same : c.in-Some.document ≡ posting.0 = omega (arith, found.0, one.0, fits.above) in
    let span = subst (λ (document : ℕ). IsSpan rows document c.in-Some.span) same found.1 in
    let also = c.in-Some.ensures ready.rows ready.has in
    let few : c.in-Some.span.0 + c.in-Some.span.1 ≤ 2 ^ 28 = omega (arith, span_within ready.rows c.in-Some.document c.in-Some.span also.1, ready.few_tokens) in
    let list : List ℕ = take (length bytes - c.in_ok-gap.gap_bytes) (drop c.in_ok-gap.gap_bytes bytes) in
    let behind : list ++ missing ≡ behind_gap posting rest = ap (λ (bs : List ℕ). bs ++ missing) (take_rest bytes c.in_ok-gap.gap_bytes) ∙ one.1 in
    let p = err_from_is_err_and c.from_residual-in_err-count.result c.from_residual-in_err-count.ensures.1 in
    rw (p.1, p.2)
    (cut_in_count bytes gap posting c.in_ok-gap.gap c.in_ok-gap.gap_bytes one.0 c.in_ok-gap.ensures.found list (take_rest bytes c.in_ok-gap.gap_bytes) c.in_err-count.field-0.0
    (c.in_err-count.ensures.accepted (length posting.1) missing (behind_count posting rest) fits.is.is.0 (count_fits c.args.tokens.now _ ready rows has c.args.next posting fits c.in-Some.span span few) behind))

pub check_positions-requires-clause-fits : goal.check_positions-requires-clause-fits
check_positions-requires-clause-fits g c =
    let ready = c.requires.ready in
    let found = c.in-Some.ensures ready.rows ready.has in
    omega (arith, span_within ready.rows c.in-Some.document c.in-Some.span found.1, ready.few_tokens)

pub check_positions-requires-clause-room : goal.check_positions-requires-clause-room
check_positions-requires-clause-room g c =
    let ready = c.requires.ready in
    let found = c.in-Some.ensures ready.rows ready.has in
    (_, ready.room, omega (arith, span_within ready.rows c.in-Some.document c.in-Some.span found.1))

pub returns-in_err-list_bytes-clause-accepted : goal.returns-in_err-list_bytes-clause-accepted
returns-in_err-list_bytes-clause-accepted g c rows numbers posting missing rest has held fits free e =
    let ready = c.requires.ready in
    let bytes = c.args.bytes.now in
    let gap = posting.0 + 1 - c.args.next in
    let one = c.in_ok-gap.ensures.accepted gap missing (behind_gap posting rest) (gap_some c.args.tokens.now _ ready rows has c.args.next posting fits) (gap_fits c.args.tokens.now _ ready rows has c.args.next posting fits) (e ∙ posting_parts gap posting rest) in
    let found = c.in-Some.ensures rows has in
    let same : c.in-Some.document ≡ posting.0 = omega (arith, found.0, one.0, fits.above) in
    let span = subst (λ (document : ℕ). IsSpan rows document c.in-Some.span) same found.1 in
    let also = c.in-Some.ensures ready.rows ready.has in
    let few : c.in-Some.span.0 + c.in-Some.span.1 ≤ 2 ^ 28 = omega (arith, span_within ready.rows c.in-Some.document c.in-Some.span also.1, ready.few_tokens) in
    let list : List ℕ = take (length bytes - c.in_ok-gap.gap_bytes) (drop c.in_ok-gap.gap_bytes bytes) in
    let behind : list ++ missing ≡ behind_gap posting rest = ap (λ (bs : List ℕ). bs ++ missing) (take_rest bytes c.in_ok-gap.gap_bytes) ∙ one.1 in
    let two = c.in_ok-count.ensures.accepted (length posting.1) missing (behind_count posting rest) fits.is.is.0 (count_fits c.args.tokens.now _ ready rows has c.args.next posting fits c.in-Some.span span few) behind in
    let left : List ℕ = take (length list - c.in_ok-count.count_bytes) (drop c.in_ok-count.count_bytes list) in
    let three : left ++ missing ≡ behind_count posting rest = ap (λ (bs : List ℕ). bs ++ missing) (take_rest list c.in_ok-count.count_bytes) ∙ two.1 in
    let stand = positions_next g.S.SeenTokens.admits (g.S.SeenTokens.has_seen c.args.seen.now) c.args.tokens.now _ ready rows has c.args.next posting fits c.in-Some.span span c.in_ok-count.count numbers rest (left ++ missing) held free two.0 three in
    let p = err_from_is_err_and c.from_residual-in_err-list_bytes.result c.from_residual-in_err-list_bytes.ensures.1 in
    rw (p.1, p.2)
    (fails_in_positions bytes gap posting c.in_ok-gap.gap c.in_ok-gap.gap_bytes one.0 c.in_ok-gap.ensures.found list (take_rest bytes c.in_ok-gap.gap_bytes)
    c.in_ok-count.count c.in_ok-count.count_bytes two.0 c.in_ok-count.ensures.found left (take_rest list c.in_ok-count.count_bytes) c.in_err-list_bytes.field-0.0
    (c.in_err-list_bytes.ensures.accepted missing numbers posting.1 rest stand))

pub returns-clause-read : goal.returns-clause-read
returns-clause-read g c =
    let ready = c.requires.ready in
    let bytes = c.args.bytes.now in
    let gap_bytes = c.in_ok-gap.gap_bytes in
    let count = c.in_ok-count.count in
    let count_bytes = c.in_ok-count.count_bytes in
    let span = c.in-Some.span in
    let admits = g.S.SeenTokens.admits in
    let old = g.S.SeenTokens.has_seen c.args.seen.now in
    let new = g.S.SeenTokens.has_seen c.check_positions.new.seen in
    let behind : BeginsWithShort (drop gap_bytes bytes) count count_bytes = subst (λ (rest : List ℕ). BeginsWithShort rest count count_bytes) (take_rest bytes gap_bytes) c.in_ok-count.ensures.found in
    let P : List ℕ → Type 0 = λ rest. SeesPositions admits old new span.0 span.1 count rest c.in_ok-list_bytes.list_bytes in
    let sees : P (drop count_bytes (drop gap_bytes bytes)) =
    subst P (take_rest (drop gap_bytes bytes) count_bytes)
    (subst (λ (rest : List ℕ). P (take (length rest - count_bytes) (drop count_bytes rest))) (take_rest bytes gap_bytes) c.in_ok-list_bytes.ensures.read) in
    sees_parts admits old new c.args.tokens.now c.args.next bytes c.in_ok-gap.gap gap_bytes count count_bytes c.in_ok-list_bytes.list_bytes c.in-Some.document span
    c.in_ok-gap.ensures.found (c.in-Some.ensures ready.rows ready.has).0 (λ rows has. (c.in-Some.ensures rows has).1) behind sees
