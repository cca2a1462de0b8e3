use Rattle.std.proofs.Common.{List, All, IsUtf8, subst}
use Rattle.ix_file.specs.PlacedTerms.{PlacedTerm, terms_in}
use Rattle.ix_file.proofs.open.terms.Terms.len.Goals as goal

pub returns-clause-texts : goal.returns-clause-texts
returns-clause-texts c = subst (λ (terms : List PlacedTerm). All IsUtf8 (terms_in terms)) c.self.view_is c.self.invariant.each
