use Rattle.std.proofs.Common.{refl}
use Rattle.ix_query_text.specs.Proper.{IsShaped}
use Rattle.ix_query_text.specs.declared.tree.Tree.TheVariants as tree
use Rattle.ix_query_text.proofs.TreeLemmas.{judged, shaped-Phrase, shaped-Near, shaped-Pattern, shaped-And, shaped-Or, shaped-Not}
use Rattle.ix_query_text.proofs.proper.+shape.Goals as goal

pub is_shaped-returns-in-Phrase : goal.is_shaped-returns-in-Phrase
is_shaped-returns-in-Phrase t c =
    judged IsShaped _ (tree.Phrase c.in-Phrase.entries) _ c.in-Phrase.is (shaped-Phrase c.in-Phrase.entries) (rw c.as_slice.ensures at c.is_phrase.ensures)

pub is_shaped-returns-in-Near : goal.is_shaped-returns-in-Near
is_shaped-returns-in-Near t c =
    judged IsShaped _ (tree.Near c.in-Near.first c.in-Near.second c.in-Near.distance) _ c.in-Near.is (shaped-Near c.in-Near.first c.in-Near.second c.in-Near.distance) c.is_distance.ensures

pub is_shaped-returns-in-Pattern : goal.is_shaped-returns-in-Pattern
is_shaped-returns-in-Pattern t c =
    judged IsShaped _ (tree.Pattern c.in-Pattern.field-0) _ c.in-Pattern.is (shaped-Pattern c.in-Pattern.field-0) (λ _. tt, λ _. refl)

pub is_shaped-returns-in-And : goal.is_shaped-returns-in-And
is_shaped-returns-in-And t c =
    judged IsShaped _ (tree.And c.in-And.parts) _ c.in-And.is (shaped-And c.in-And.parts) (rw c.as_slice-in-And.ensures at c.are_joined.ensures)

pub is_shaped-returns-in-Or : goal.is_shaped-returns-in-Or
is_shaped-returns-in-Or t c =
    judged IsShaped _ (tree.Or c.in-Or.parts) _ c.in-Or.is (shaped-Or c.in-Or.parts) (rw c.as_slice-in-Or.ensures at c.are_joined-in-Or.ensures)

pub is_shaped-returns-in-Not : goal.is_shaped-returns-in-Not
is_shaped-returns-in-Not t c =
    judged IsShaped _ (tree.Not c.in-Not.part) _ c.in-Not.is (shaped-Not c.in-Not.part) (rw c.get.ensures at c.is_shaped.ensures)
