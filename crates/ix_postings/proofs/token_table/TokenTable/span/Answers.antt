use Rattle.std.proofs.Common.{List, ℕ, ◌≡◌, ◌<◌, ◌≤◌, ◌+◌, length, get_or, subst, ap, ◌∙◌, arith}
use Rattle.ix_postings.proofs.TokenStarts.{span_of_starts, no_document}
use Rattle.ix_postings.specs.TokenTables.{HasTokens}
use Rattle.ix_postings.proofs.token_table.TokenTable.span.Goals as goal

pub returns : goal.returns
unfolding HasTokens
returns c = λ rows has.
    let starts : List ℕ = c.args.self.now.starts.items in
    let one : c.deref.result.now ≡ starts = c.deref.ensures.value in
    let two : c.deref-2.result.now ≡ starts = c.deref-2.ensures.value in
    let within : c.args.document + 1 < length starts = subst (λ (items : List ℕ). c.args.document + 1 < length items) two c.in_ok-next.ensures.lookup.3.0 in
    span_of_starts starts rows c.args.document _ _ has within
    (c.in_ok-first.ensures.lookup.1 ∙ ap (λ (items : List ℕ). get_or items c.args.document c.in_ok-first.field-0.now) one)
    (c.in_ok-next.ensures.lookup.1 ∙ ap (λ (items : List ℕ). get_or items (c.args.document + 1) c.in_ok-next.field-0.now) two)

pub returns-in_err-first : goal.returns-in_err-first
unfolding HasTokens
returns-in_err-first c = λ rows has.
    let past : length c.args.self.now.starts.items ≤ c.args.document = subst (λ (items : List ℕ). length items ≤ c.args.document) c.deref.ensures.value c.in_err-first.ensures.lookup.3 in
    rw c.from_residual.ensures (no_document _ rows _ has (omega (arith, past)))

pub returns-in_err-next : goal.returns-in_err-next
unfolding HasTokens
returns-in_err-next c = λ rows has.
    let past : length c.args.self.now.starts.items ≤ c.args.document + 1 = subst (λ (items : List ℕ). length items ≤ c.args.document + 1) c.deref-2.ensures.value c.in_err-next.ensures.lookup.3 in
    rw c.from_residual-in_err-next.ensures (no_document _ rows _ has past)
