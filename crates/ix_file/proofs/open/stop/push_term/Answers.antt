use Rattle.std.proofs.Common.{◌≡◌, List, ℕ, ◌∷◌, [], ◌++◌, map, inr, Global, string_bytes, sym, ap, ◌∙◌, subst, arith}
use Rattle.std.proofs.lemmas.List.{map-append, length-map}
use Rattle.ix_text.specs.ByteOrder.{IsAscending}
use Rattle.ix_vbyte.proofs.Texts.{counted-apart}
use Rattle.ix_file.proofs.AscendingLemmas.{follows, followed, from_borrowed, to_borrowed}
use Rattle.ix_file.proofs.StopReading.{stop_push}
use Rattle.ix_file.proofs.open.stop.push_term.Goals as goal

pub returns-then-not-is_above-clause-refused : goal.returns-then-not-is_above-clause-refused
returns-then-not-is_above-clause-refused c = inr (λ term rest is e.
    let terms = c.args.terms.now.items in
    let bytes = string_bytes {Z = Global} in
    let found = c.in_ok-term.ensures.found in
    let same = counted-apart c.in_ok-term.term.now term c.in_ok-term.rest.now rest (sym found.1 ∙ e) in
    let before = rw c.deref.ensures.value at c.last.ensures.value in
    let above = followed bytes c.in_ok-term.term.now terms _ before (subst (λ (t : List ℕ). IsAscending (map bytes terms ++ t ∷ [])) (sym same.0) is.ascending) in
    let is_above = c.is_above.ensures.1 (to_borrowed bytes c.in_ok-term.term.now c.last.result above) in
    cc (is_above, c.if-not-is_above.true))

pub returns-clause-lawful : goal.returns-clause-lawful
returns-clause-lawful c =
    let terms = c.args.terms.now.items in
    let bytes = string_bytes {Z = Global} in
    let before = rw c.deref.ensures.value at c.last.ensures.value in
    let above = follows bytes c.in_ok-term.term.now terms _ before c.requires.ascending (from_borrowed bytes c.in_ok-term.term.now c.last.result (c.is_above.ensures.0 c.if-not-is_above.false)) in
    let pushed : map bytes c.push.new.self.items ≡ map bytes terms ++ c.in_ok-term.term.now ∷ [] =
    ap (map bytes) c.in_ok-push.ensures.items ∙ map-append bytes terms (c.in_ok-from_str.field-0 ∷ [])
    ∙ ap (λ (t : List ℕ). map bytes terms ++ t ∷ []) c.in_ok-from_str.ensures.ok in
    let few = c.if-len.false in
    rw pushed (stop_push (map bytes terms) c.in_ok-term.term.now c.requires (omega (arith, few, c.len.ensures, length-map terms bytes)) above c.in_ok-term.ensures.found.0)
