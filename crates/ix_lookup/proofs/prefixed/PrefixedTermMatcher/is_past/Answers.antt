use Rattle.std.proofs.Common.{◌≢◌, length, sym, ◌∙◌}
use Rattle.ix_lookup.specs.Fronts.{IsHeld}
use Rattle.ix_lookup.proofs.FrontLemmas.{common}
use Rattle.ix_lookup.proofs.PrefixLemmas.{never_again, not_both}
use Rattle.ix_lookup.proofs.prefixed.PrefixedTermMatcher.is_past.Goals as goal

pub returns-then-self : goal.returns-then-self
returns-then-self g c = λ unshared term later at above wanted.
    let prefixed = c.args.self.now in
    let is : IsHeld prefixed.front prefixed.term.items term = at in
    let apart : common term prefixed.front.text.now ≢ length prefixed.front.text.now = λ all. not_both c.has_front.result unshared (c.has_front.ensures.1 (is.at.common ∙ all)) in
    never_again prefixed.front.text.now term later (sym is.at.below ∙ c.if-self.true) apart above wanted.0
