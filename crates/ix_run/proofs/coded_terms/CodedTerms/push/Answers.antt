-- What stands then holds the term behind the others.
use Rattle.std.proofs.Common.{◌∷◌, ◌++◌, [], List, ℕ, IsUtf8, length, ap, ap₂, subst, ◌∙◌, arith}
use Rattle.ix_run.specs.HeldTerms.{MayBeHeld, bytes_of_row, terms_in}
use Rattle.ix_run.specs.Runs.{TermValue, term_shown}
use Rattle.ix_run.proofs.HeldTermLemmas.{held_told, one_more_held, terms_held}
use Rattle.ix_run.proofs.coded_terms.CodedTerms.push.Goals as goal

pub invariant_of-self-2 : goal.invariant_of-self-2
invariant_of-self-2 c =
    let utf8 : IsUtf8 c.args.term.term.now = subst IsUtf8 c.as_bytes-text.ensures.value c.as_bytes-text.ensures.utf8 in
    let may : MayBeHeld (term_shown c.args.term) = record { utf8 = utf8; row = record { text = omega arith; list = omega arith; documents = omega arith; last = omega arith } } in
    let text = c.in_ok-byte_count.ensures ∙ ap (length {A = ℕ}) c.as_bytes-text.ensures.value in
    let held =
    one_more_held c.self.inside.bytes.items (terms_in c.self.inside.bytes.items) (term_shown c.args.term) c.push_term.new.bytes.items c.self.invariant may
    (c.in_ok-push_term.ensures.pushed
    ∙ ap₂ (λ (text list : ℕ). c.self.inside.bytes.items ++ (bytes_of_row (record { text = text; list = list; documents = c.args.term.documents; last = c.args.term.last }) ++ (c.as_bytes-text.result.now ++ c.args.term.list.now))) text c.in_ok-byte_count-2.ensures
    ∙ ap (λ (term : List ℕ). c.self.inside.bytes.items ++ (bytes_of_row (record { text = length c.args.term.term.now; list = length c.args.term.list.now; documents = c.args.term.documents; last = c.args.term.last }) ++ (term ++ c.args.term.list.now))) c.as_bytes-text.ensures.value) in
    held_told _ _ held

pub returns-clause-pushed : goal.returns-clause-pushed
returns-clause-pushed c =
    let utf8 : IsUtf8 c.args.term.term.now = subst IsUtf8 c.as_bytes-text.ensures.value c.as_bytes-text.ensures.utf8 in
    let may : MayBeHeld (term_shown c.args.term) = record { utf8 = utf8; row = record { text = omega arith; list = omega arith; documents = omega arith; last = omega arith } } in
    let text = c.in_ok-byte_count.ensures ∙ ap (length {A = ℕ}) c.as_bytes-text.ensures.value in
    let held =
    one_more_held c.self.inside.bytes.items (terms_in c.self.inside.bytes.items) (term_shown c.args.term) c.push_term.new.bytes.items c.self.invariant may
    (c.in_ok-push_term.ensures.pushed
    ∙ ap₂ (λ (text list : ℕ). c.self.inside.bytes.items ++ (bytes_of_row (record { text = text; list = list; documents = c.args.term.documents; last = c.args.term.last }) ++ (c.as_bytes-text.result.now ++ c.args.term.list.now))) text c.in_ok-byte_count-2.ensures
    ∙ ap (λ (term : List ℕ). c.self.inside.bytes.items ++ (bytes_of_row (record { text = length c.args.term.term.now; list = length c.args.term.list.now; documents = c.args.term.documents; last = c.args.term.last }) ++ (term ++ c.args.term.list.now))) c.as_bytes-text.ensures.value) in
    terms_held _ _ held ∙ ap (λ (terms : List TermValue). terms ++ term_shown c.args.term ∷ []) c.self.view_is
