use Rattle.std.proofs.Common.{sym, ◌∙◌}
use Rattle.ix_merge.proofs.StopTerms.{other_terms, same_terms}
use Rattle.ix_build.proofs.read_back.have_same_terms.Goals as goal

pub returns-clause-same : goal.returns-clause-same
returns-clause-same c = λ same.
    sym c.terms.ensures.value ∙ same_terms c.terms.result.now c.terms-2.result.now (sym c.eq.ensures ∙ same) ∙ c.terms-2.ensures.value

pub returns-clause-other : goal.returns-clause-other
returns-clause-other c = λ other same.
    other_terms c.terms.result.now c.terms-2.result.now (sym c.eq.ensures ∙ other) (c.terms.ensures.value ∙ same ∙ sym c.terms-2.ensures.value)
