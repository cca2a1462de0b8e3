-- each earlier part is in shape
use Rattle.ix_query_text.specs.Proper.{IsShaped}
use Rattle.ix_query_text.proofs.EachBefore.{EachBefore}
use Rattle.ix_query_text.proofs.proper.+shape.Given as goal

abbrev pub invariant-are_joined-loop-part : goal.invariant-are_joined-loop-part
invariant-are_joined-loop-part l = EachBefore IsShaped l.parts l.part-index
