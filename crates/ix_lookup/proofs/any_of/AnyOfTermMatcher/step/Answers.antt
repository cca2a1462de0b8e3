use Rattle.std.proofs.Common.{ℕ, ◌++◌, Some, Option, length, take, refl, subst}
use Rattle.ix_lookup.specs.Matchers.{AreAt, HasFoundPlace}
use Rattle.ix_lookup.proofs.MatcherLemmas.{any_at}
use Rattle.ix_lookup.proofs.any_of.AnyOfTermMatcher.step.Goals as goal

pub returns-in-Some-clause-answered : goal.returns-in-Some-clause-answered
returns-in-Some-clause-answered g c = λ before at within above is_term.
    let matchers = c.args.self.now.matchers.items in
    let term = take c.args.shared before ++ c.args.own.now in
    let are : AreAt g.M.TermMatcher.wants g.M.TermMatcher.is_at matchers c.args.self.now.found before = at in
    let found : HasFoundPlace g.M.TermMatcher.wants matchers term (length matchers) (Some c.in-Some.place) =
    subst (λ (place : Option ℕ). HasFoundPlace g.M.TermMatcher.wants matchers term (length matchers) place) c.in-Some.is (c.in_ok-place.ensures.answered before are.each within above is_term) in
    (λ _. any_at (λ (one : _). g.M.TermMatcher.wants one term) matchers c.in-Some.place found.0 found.1, λ _. refl)
