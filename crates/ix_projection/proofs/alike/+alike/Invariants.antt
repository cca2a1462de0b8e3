use Rattle.ix_query_text.proofs.EachBefore.{EachBefore}
use Rattle.ix_projection.specs.Alike.{IsAlike}
use Rattle.ix_projection.proofs.alike.+alike.Given as goal

-- the law holds of each earlier part
abbrev pub invariant-each_asks_alike-loop-part : goal.invariant-each_asks_alike-loop-part
invariant-each_asks_alike-loop-part l = EachBefore IsAlike l.parts l.part-index
