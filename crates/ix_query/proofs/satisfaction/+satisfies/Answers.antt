use Rattle.ix_query_text.specs.declared.tree.Tree.TheVariants as asks
use Rattle.ix_query.specs.Satisfaction.{Satisfies}
use Rattle.ix_query.proofs.SatisfactionLemmas.{satisfies-Phrase, satisfies-Near, satisfies-Pattern, satisfies-And, satisfies-Or, satisfies-Not, negated}
use Rattle.ix_query_text.proofs.TreeLemmas.{judged}
use Rattle.ix_query.proofs.satisfaction.+satisfies.Goals as goal

pub satisfies-returns-in-Phrase : goal.satisfies-returns-in-Phrase
satisfies-returns-in-Phrase t c =
    judged (Satisfies _) _ (asks.Phrase c.in-Phrase.parts) _ c.in-Phrase.is (satisfies-Phrase _ c.in-Phrase.parts) (rw c.as_slice.ensures at c.has_phrase.ensures)

pub satisfies-returns-in-Near : goal.satisfies-returns-in-Near
satisfies-returns-in-Near t c =
    judged (Satisfies _) _ (asks.Near c.in-Near.first c.in-Near.second c.in-Near.distance) _ c.in-Near.is (satisfies-Near _ c.in-Near.first c.in-Near.second c.in-Near.distance)
    (rw (c.as_str.ensures, c.as_str-in-Near.ensures) at c.are_near.ensures)

pub satisfies-returns-in-Pattern : goal.satisfies-returns-in-Pattern
satisfies-returns-in-Pattern t c =
    judged (Satisfies _) _ (asks.Pattern c.in-Pattern.pattern) _ c.in-Pattern.is (satisfies-Pattern _ c.in-Pattern.pattern) c.has_match.ensures

pub satisfies-returns-in-And : goal.satisfies-returns-in-And
satisfies-returns-in-And t c =
    judged (Satisfies _) _ (asks.And c.in-And.parts) _ c.in-And.is (satisfies-And _ c.in-And.parts) (rw c.as_slice-in-And.ensures at c.satisfies_each.ensures)

pub satisfies-returns-in-Or : goal.satisfies-returns-in-Or
satisfies-returns-in-Or t c =
    judged (Satisfies _) _ (asks.Or c.in-Or.parts) _ c.in-Or.is (satisfies-Or _ c.in-Or.parts) (rw c.as_slice-in-Or.ensures at c.satisfies_one.ensures)

pub satisfies-returns-in-Not : goal.satisfies-returns-in-Not
satisfies-returns-in-Not t c =
    judged (Satisfies _) _ (asks.Not c.in-Not.part) _ c.in-Not.is (satisfies-Not _ c.in-Not.part) (negated c.satisfies.result (rw c.get.ensures at c.satisfies.ensures))
