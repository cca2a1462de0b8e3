-- Bytes that may come next as a term are taken for it.
use Rattle.std.proofs.Common.{◌≡◌, ◌++◌, ℕ, List, length, string_bytes, arith, subst, sym, ap, ◌∙◌}
use Rattle.std.proofs.lemmas.Bool.{false≢true}
use Rattle.std.specs.Prelude.{Contains, IsUtf8}
use Rattle.ix_run_text.proofs.TermLemmas.{above_from_test, not_above_from_test}
use Rattle.ix_run_text.proofs.term.set_term.Goals as goal

pub returns-in_default-clause-accepted : goal.returns-in_default-clause-accepted
returns-in_default-clause-accepted c fits = c.in_default.ensures.cases.0 fits.is.text

pub returns-then-le-clause-accepted : goal.returns-then-le-clause-accepted
returns-then-le-clause-accepted c fits =
    let is : c.in-Ok.text.now ≡ c.args.bytes.now = c.in-Ok.ensures.cases.0 in
    not_above_from_test c.in-Ok.text.now c.as_str.result.now c.le.result c.le.ensures c.if-le.true (rw (is, c.as_str.ensures.value) fits.above)

pub returns-then-contains-clause-accepted : goal.returns-then-contains-clause-accepted
returns-then-contains-clause-accepted c fits =
    let is : c.in-Ok.text.now ≡ c.args.bytes.now = c.in-Ok.ensures.cases.0 in
    fits.no_stop (subst (λ (term : List ℕ). Contains c.args.stop.now term) is (c.contains.ensures.0 c.if-contains.true))

pub returns-clause-set : goal.returns-clause-set
returns-clause-set c =
    let alone : string_bytes c.clear.new.self ++ c.in-Ok.text.now ≡ c.in-Ok.text.now = ap (λ (bytes : List ℕ). bytes ++ c.in-Ok.text.now) c.clear.ensures.bytes in
    let is : string_bytes c.push_str.new.self ≡ c.in-Ok.text.now = c.in_ok-push_str.ensures.bytes ∙ alone in
    is ∙ c.in-Ok.ensures.cases.0

pub returns-clause-fits : goal.returns-clause-fits
returns-clause-fits c =
    let alone : string_bytes c.clear.new.self ++ c.in-Ok.text.now ≡ c.in-Ok.text.now = ap (λ (bytes : List ℕ). bytes ++ c.in-Ok.text.now) c.clear.ensures.bytes in
    let is : string_bytes c.push_str.new.self ≡ c.in-Ok.text.now = c.in_ok-push_str.ensures.bytes ∙ alone in
    let size : length c.in-Ok.text.now ≡ length c.args.bytes.now = ap length c.in-Ok.ensures.cases.0 in
    rw is (record {
      is = record {
        text = subst IsUtf8 (sym c.in-Ok.ensures.cases.0) c.in-Ok.ensures.cases.1;
        some_byte = omega (arith, size, c.requires.some);
        short = omega (arith, size, c.requires.short);
      };
      above = rw (← c.as_str.ensures.value) (above_from_test c.in-Ok.text.now c.as_str.result.now c.le.result c.le.ensures c.if-le.false);
      no_stop = λ stops. false≢true (sym c.if-contains.false ∙ c.contains.ensures.1 stops);
    })
