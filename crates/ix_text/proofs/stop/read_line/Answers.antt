use Rattle.std.proofs.Common.{◌≡◌, string_bytes, map, [], ◌∷◌, ◌++◌, sym, ap, ◌∙◌, eqb-true, rules}
use Rattle.std.proofs.lemmas.List.{append-nil, map-append, nil_from_length}
use Rattle.ix_text.proofs.StopTextLemmas.{stop_terms_of-empty_line, stop_terms_of-word}
use Rattle.ix_text.proofs.stop.read_line.Goals as goal

pub returns-then-is_empty-clause-terms : goal.returns-then-is_empty-clause-terms
returns-then-is_empty-clause-terms c =
    let empty : c.args.line.now ≡ [] = nil_from_length c.args.line.now (eqb-true _ 0 (sym c.is_empty.ensures ∙ c.if-is_empty.true)) in
    sym (append-nil _) ∙ ap (λ l. map string_bytes c.args.terms.now.items ++ l) (sym (stop_terms_of-empty_line c.args.line.now empty))

pub returns-clause-terms : goal.returns-clause-terms
returns-clause-terms c =
    ap (map string_bytes) c.in_ok-push.ensures.items ∙ map-append string_bytes c.args.terms.now.items (c.in_ok-term.term ∷ [])
    ∙ ap (λ l. map string_bytes c.args.terms.now.items ++ l)
    (ap (λ t. t ∷ []) c.in_ok-term.ensures ∙ sym (stop_terms_of-word c.args.line.now c.in-Some.word.now c.in-Some.ensures))

-- The check finds it too; with an answer a wrong body that falls here is refused sooner.
pub returns-in_default-clause-fault : goal.returns-in_default-clause-fault
returns-in_default-clause-fault c = search rules
