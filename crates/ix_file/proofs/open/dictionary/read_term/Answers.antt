use Rattle.std.proofs.Common.{◌≡◌, ◌∷◌, [], List, ℕ, IsUtf8, Contains, string_bytes, inl, inr, sym, ◌∙◌, subst, ⊎_elim}
use Rattle.std.proofs.lemmas.Result.{err_from_is_err_and}
use Rattle.ix_text.specs.ByteOrder.{IsAscending}
use Rattle.ix_file.specs.Frames.{version_in}
use Rattle.ix_file.specs.TermReading.{text_of}
use Rattle.ix_file.proofs.AscendingLemmas.{pair_test}
use Rattle.ix_file.proofs.ListingReading.{cut_is, from_cut}
use Rattle.ix_file.proofs.open.dictionary.read_term.Goals as goal

pub returns-in_err-term-clause-refused : goal.returns-in_err-term-clause-refused
returns-in_err-term-clause-refused c =
    let p = err_from_is_err_and c.from_residual-in_err-term.result c.from_residual-in_err-term.ensures.1 in
    rw (p.1, p.2)
    (⊎_elim inl
    (λ broken. inr (λ term rest may e.
    let same = cut_is (version_in c.args.version) c.args.place c.args.before.now c.as_bytes.result.now c.args.left.now c.in_ok-cut.cut.rest.now rest (text_of c.in_ok-cut.cut) term c.as_bytes.ensures.value c.in_ok-cut.ensures.found e in
    broken (subst IsUtf8 (sym same) may.is_term.text)))
    c.in_err-term.ensures.refused)

pub returns-then-not-is_above-clause-refused : goal.returns-then-not-is_above-clause-refused
returns-then-not-is_above-clause-refused c = inr (λ term rest may e.
    let same = cut_is (version_in c.args.version) c.args.place c.args.before.now c.as_bytes.result.now c.args.left.now c.in_ok-cut.cut.rest.now rest (text_of c.in_ok-cut.cut) term c.as_bytes.ensures.value c.in_ok-cut.ensures.found e in
    let text : c.as_str.result.now ≡ term = c.as_str.ensures.value ∙ c.in_ok-term.ensures.found ∙ same in
    let above = (pair_test c.args.before.now c.as_str.result.now c.lt-is_above.result (cc)).1 (subst (λ (t : List ℕ). IsAscending (c.args.before.now ∷ t ∷ [])) (sym text) may.above) in
    cc (above, c.if-not-is_above.true))

pub returns-then-contains-clause-refused : goal.returns-then-contains-clause-refused
returns-then-contains-clause-refused c = inr (λ term rest may e.
    let same = cut_is (version_in c.args.version) c.args.place c.args.before.now c.as_bytes.result.now c.args.left.now c.in_ok-cut.cut.rest.now rest (text_of c.in_ok-cut.cut) term c.as_bytes.ensures.value c.in_ok-cut.ensures.found e in
    let text : c.as_str-2.result.now ≡ term = c.as_str-2.ensures.value ∙ c.in_ok-term.ensures.found ∙ same in
    may.unstopped (subst (Contains c.args.stop.now) text (c.contains.ensures.0 c.if-contains.true)))

pub returns-clause-term : goal.returns-clause-term
returns-clause-term c =
    let text : c.as_str.result.now ≡ string_bytes c.in_ok-term.term = c.as_str.ensures.value in
    let also : string_bytes c.in_ok-term.term ≡ c.as_str-2.result.now = sym c.as_str-2.ensures.value in
    record {
      is_term = from_cut (text_of c.in_ok-cut.cut) (string_bytes c.in_ok-term.term) c.in_ok-term.ensures.found (subst IsUtf8 text c.as_str.utf8) c.in_ok-cut.ensures.size;
      above = subst (λ (t : List ℕ). IsAscending (c.args.before.now ∷ t ∷ [])) text ((pair_test c.args.before.now c.as_str.result.now c.lt-is_above.result (cc)).0 c.if-not-is_above.false);
      unstopped = λ among. let contains = c.contains.ensures.1 (subst (Contains c.args.stop.now) also among) in cc (contains, c.if-contains.false);
    }
