-- What was opened, or not, is a copy of the text.
use Rattle.std.proofs.Common.{ℕ, List, subst}
use Rattle.std.proofs.lemmas.Result.{IfErr-at_err}
use Rattle.ix_c.specs.Opening.{RefusesOpening}
use Rattle.ix_c.proofs.SearchLemmas.{given_err, unopened}
use Rattle.ix_c.proofs.opened.open_copy.Goals as goal

pub returns-in-Err-clause-refused : goal.returns-in-Err-clause-refused
returns-in-Err-clause-refused c =
    subst (λ (text : List ℕ). RefusesOpening text c.in-Err.refusal) c.in-Ok.ensures.items
    (IfErr-at_err (RefusesOpening c.in-Ok.copy.items) c.in-Err.is (given_err _ c.open.result _ c.index_or_refusal.ensures (unopened c.in-Ok.copy.items _ c.open.result c.open.ensures.exact)))
