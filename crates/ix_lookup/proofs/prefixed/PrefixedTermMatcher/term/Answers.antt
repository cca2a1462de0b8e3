use Rattle.std.proofs.Common.{◌≡◌, sym, ◌∙◌, subst, IsUtf8}
use Rattle.ix_text.specs.Terms.{IsTerm}
use Rattle.ix_lookup.specs.Fronts.{IsHeld}
use Rattle.ix_lookup.proofs.PrefixLemmas.{front_shared}
use Rattle.ix_lookup.proofs.prefixed.PrefixedTermMatcher.term.Goals as goal

pub returns : goal.returns
returns g c = λ term at is_term wanted.
    let prefixed = c.args.self.now in
    let is : IsHeld prefixed.front prefixed.term.items term = at in
    let lawful : IsTerm term = is_term in
    let held : prefixed.term.items ≡ term = is.kept (is.at.common ∙ front_shared prefixed.front.text.now term wanted.0) in
    c.held.ensures (subst IsUtf8 (sym held) lawful.text) ∙ held
