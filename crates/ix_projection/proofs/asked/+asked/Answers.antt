use Rattle.ix_query_text.specs.declared.tree.Tree.TheVariants as asks
use Rattle.ix_query_text.proofs.TreeLemmas.{judged}
use Rattle.ix_projection.specs.Asked.{AsksAbout}
use Rattle.ix_projection.proofs.AskedLemmas.{asks-Phrase, asks-Near, asks-Pattern, asks-And, asks-Or, asks-Not}
use Rattle.ix_projection.proofs.asked.+asked.Goals as goal

pub asks_about-returns-in-Phrase : goal.asks_about-returns-in-Phrase
asks_about-returns-in-Phrase t c =
    judged (AsksAbout _) _ (asks.Phrase c.in-Phrase.parts) _ c.in-Phrase.is (asks-Phrase _ c.in-Phrase.parts) (rw c.as_slice.ensures at c.has_term.ensures)

pub asks_about-returns-in-Near : goal.asks_about-returns-in-Near
asks_about-returns-in-Near t c =
    judged (AsksAbout _) _ (asks.Near c.in-Near.first c.in-Near.second c.in-Near.distance) _ c.in-Near.is (asks-Near _ c.in-Near.first c.in-Near.second c.in-Near.distance)
    (rw (c.as_str.ensures, c.as_str-in-Near.ensures) at c.is_one_of.ensures)

pub asks_about-returns-in-Pattern : goal.asks_about-returns-in-Pattern
asks_about-returns-in-Pattern t c =
    judged (AsksAbout _) _ (asks.Pattern c.in-Pattern.pattern) _ c.in-Pattern.is (asks-Pattern _ c.in-Pattern.pattern) c.matches.ensures

pub asks_about-returns-in-And : goal.asks_about-returns-in-And
asks_about-returns-in-And t c =
    judged (AsksAbout _) _ (asks.And c.in-And.parts) _ c.in-And.is (asks-And _ c.in-And.parts) (rw c.as_slice-in-And.ensures at c.one_asks_about.ensures)

pub asks_about-returns-in-Or : goal.asks_about-returns-in-Or
asks_about-returns-in-Or t c =
    judged (AsksAbout _) _ (asks.Or c.in-Or.parts) _ c.in-Or.is (asks-Or _ c.in-Or.parts) (rw c.as_slice-in-Or.ensures at c.one_asks_about-in-Or.ensures)

pub asks_about-returns-in-Not : goal.asks_about-returns-in-Not
asks_about-returns-in-Not t c =
    judged (AsksAbout _) _ (asks.Not c.in-Not.part) _ c.in-Not.is (asks-Not _ c.in-Not.part) (rw c.get.ensures at c.asks_about.ensures)
