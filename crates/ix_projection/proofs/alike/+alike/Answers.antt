use Rattle.std.proofs.Common.{sym, subst}
use Rattle.ix_query_text.proofs.EachBefore.{each_more}
use Rattle.ix_projection.specs.Alike.{IsAlike}
use Rattle.ix_projection.proofs.AlikeLemmas.{alike-Phrase, alike-Near, alike-Pattern, alike-And, alike-Or, alike-Not}
use Rattle.ix_projection.proofs.alike.+alike.Goals as goal

pub asks_alike-returns-in-Phrase : goal.asks_alike-returns-in-Phrase
asks_alike-returns-in-Phrase t c = subst IsAlike (sym c.in-Phrase.is) (alike-Phrase c.in-Phrase.field-0)

pub asks_alike-returns-in-Near : goal.asks_alike-returns-in-Near
asks_alike-returns-in-Near t c = subst IsAlike (sym c.in-Near.is) (alike-Near c.in-Near.first c.in-Near.second c.in-Near.distance)

pub asks_alike-returns-in-Pattern : goal.asks_alike-returns-in-Pattern
asks_alike-returns-in-Pattern t c = subst IsAlike (sym c.in-Pattern.is) (alike-Pattern c.in-Pattern.field-0)

pub asks_alike-returns-in-And : goal.asks_alike-returns-in-And
asks_alike-returns-in-And t c = subst IsAlike (sym c.in-And.is) (alike-And c.in-And.parts (rw c.as_slice.ensures at c.each_asks_alike.ensures))

pub asks_alike-returns-in-Or : goal.asks_alike-returns-in-Or
asks_alike-returns-in-Or t c = subst IsAlike (sym c.in-Or.is) (alike-Or c.in-Or.parts (rw c.as_slice-in-Or.ensures at c.each_asks_alike-in-Or.ensures))

pub asks_alike-returns-in-Not : goal.asks_alike-returns-in-Not
asks_alike-returns-in-Not t c = subst IsAlike (sym c.in-Not.is) (alike-Not c.in-Not.part (rw c.get.ensures at c.asks_alike.ensures))

pub each_asks_alike-loop-part-preserved : goal.each_asks_alike-loop-part-preserved
each_asks_alike-loop-part-preserved t c = each_more IsAlike c.args.parts.now c.loop-part.part-index c.part-item.result c.loop-part-test.true c.part-item.is c.asks_alike.ensures c.loop-part.invariant
