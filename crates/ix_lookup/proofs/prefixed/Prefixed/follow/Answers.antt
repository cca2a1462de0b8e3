use Rattle.std.proofs.Common.{◌≡◌, ◌↔◌, ◌++◌, List, ℕ, Bor, IsTrue, length, take, sym, ap, ◌∙◌, subst}
use Rattle.ix_lookup.specs.Fronts.{IsHeld}
use Rattle.ix_lookup.specs.Words.{IsAtTerm}
use Rattle.ix_lookup.specs.declared.word.Word.{Word}
use Rattle.ix_lookup.proofs.FrontLemmas.{common}
use Rattle.ix_lookup.proofs.PrefixLemmas.{put_together}
use Rattle.ix_lookup.proofs.prefixed.Prefixed.follow.Goals as goal

pub returns-clause-moved : goal.returns-clause-moved
returns-clause-moved g c = λ before at within.
    let term = take c.args.shared before ++ c.args.own.now in
    let old = c.args.self.now in
    let front = c.follow.new.self in
    let was : IsHeld old.front old.term.items before = at in
    let is : IsAtTerm front term = c.follow.ensures.moved before was.at within in
    let text : front.text.now ≡ old.front.text.now = ap (λ (t : Bor (List ℕ)). t.now) c.follow.ensures.text in
    let has : IsTrue c.has_front-is_held.result ↔ (common before old.front.text.now ≡ length old.front.text.now) =
    (λ found. sym was.at.common ∙ c.has_front-is_held.ensures.0 found, λ all. c.has_front-is_held.ensures.1 (was.at.common ∙ all)) in
    let kept : common before old.front.text.now ≡ length old.front.text.now → old.term.items ≡ before = λ all. was.kept (was.at.common ∙ all) in
    record {
      at = subst (λ (word : Word). IsAtTerm word term) (sym c.in_ok-put.ensures.front) is;
      kept = λ all.
          let whole : front.common ≡ length front.text.now = subst (λ (word : Word). word.common ≡ length word.text.now) c.in_ok-put.ensures.front all in
          c.in_ok-put.ensures.term
          ∙ put_together c.has_front-is_held.result front.text.now old.term.items before c.args.own.now c.args.shared within
          (subst (λ (t : List ℕ). IsTrue c.has_front-is_held.result ↔ (common before t ≡ length t)) (sym text) has)
          (subst (λ (t : List ℕ). common before t ≡ length t → old.term.items ≡ before) (sym text) kept)
          (sym is.common ∙ whole);
    }
