use Rattle.std.proofs.Common.{◌≡◌, Some}
use Rattle.ix_query_text.proofs.EachBefore.{EachBefore}
use Rattle.ix_projection.proofs.asked.has_term.Given as goal

-- no earlier part is the term
abbrev pub invariant-loop-part : goal.invariant-loop-part
invariant-loop-part l = EachBefore (λ part. ¬ (part ≡ Some l.term)) l.parts l.part-index
