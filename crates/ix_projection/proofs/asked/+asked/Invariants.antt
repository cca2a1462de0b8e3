use Rattle.ix_query_text.proofs.EachBefore.{EachBefore}
use Rattle.ix_projection.specs.Asked.{AsksAbout}
use Rattle.ix_projection.proofs.asked.+asked.Given as goal

-- no earlier part asks about the term
abbrev pub invariant-one_asks_about-loop-part : goal.invariant-one_asks_about-loop-part
invariant-one_asks_about-loop-part l = EachBefore (λ part. ¬ (AsksAbout l.term part)) l.parts l.part-index
