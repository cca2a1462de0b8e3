use Rattle.std.proofs.Common.{◌≡◌, ◌↔◌, ◌++◌, List, ℕ, Bor, IsTrue, IsUtf8, length, take, sym, ◌∙◌, subst}
use Rattle.ix_text.specs.Terms.{IsTerm}
use Rattle.ix_lookup.specs.Fronts.{HasFront, IsHeld}
use Rattle.ix_lookup.proofs.PrefixLemmas.{front_shared, front_from_shared}
use Rattle.ix_lookup.proofs.prefixed.PrefixedTermMatcher.step.Goals as goal

pub returns-then-not-has_front-clause-answered : goal.returns-then-not-has_front-clause-answered
returns-then-not-has_front-clause-answered g c = λ before at within above is_term.
    let term = take c.args.shared before ++ c.args.own.now in
    let prefixed = c.follow.new.self in
    let held : IsHeld prefixed.front prefixed.term.items term = c.in_ok-follow.ensures.moved before at within in (
      λ no. absurd (cc),
      λ wanted.
          let front : HasFront prefixed.front.text.now term = subst (λ (t : Bor (List ℕ)). HasFront t.now term) (sym c.in_ok-follow.ensures.text) wanted.0 in
          let found : IsTrue c.has_front.result = c.has_front.ensures.1 (held.at.common ∙ front_shared prefixed.front.text.now term front) in
          absurd (cc),
    )

pub returns-clause-answered : goal.returns-clause-answered
returns-clause-answered g c = λ before at within above is_term.
    let term = take c.args.shared before ++ c.args.own.now in
    let prefixed = c.follow.new.self in
    let lawful : IsTerm term = is_term in
    let held : IsHeld prefixed.front prefixed.term.items term = c.in_ok-follow.ensures.moved before at within in
    let all : prefixed.front.common ≡ length prefixed.front.text.now = c.has_front.ensures.0 c.if-not-has_front.false in
    let same : prefixed.term.items ≡ term = held.kept all in
    let passes : IsTrue c.is_passing.result ↔ g.T.TermTest.passes prefixed.test prefixed.term.items = c.is_passing.ensures (subst IsUtf8 (sym same) lawful.text) in
    let passes_term : IsTrue c.is_passing.result ↔ g.T.TermTest.passes c.args.self.now.test term =
    subst (λ (t : _). IsTrue c.is_passing.result ↔ g.T.TermTest.passes t term) c.in_ok-follow.ensures.test (subst (λ (bytes : List ℕ). IsTrue c.is_passing.result ↔ g.T.TermTest.passes prefixed.test bytes) same passes) in
    let front : HasFront c.args.self.now.front.text.now term =
    subst (λ (t : Bor (List ℕ)). HasFront t.now term) c.in_ok-follow.ensures.text (front_from_shared prefixed.front.text.now term (sym held.at.common ∙ all)) in
    (λ passing. (front, passes_term.0 passing), λ wanted. passes_term.1 wanted.1)
