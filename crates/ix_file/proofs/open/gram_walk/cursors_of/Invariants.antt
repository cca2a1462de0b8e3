use Rattle.std.proofs.Common.{ℕ, List, [], All, take}
use Rattle.ix_file.specs.GramWalks.{HaveRead, IsRowOn}
use Rattle.ix_file.specs.declared.open.sides.Side.{Side}
use Rattle.ix_file.proofs.open.gram_walk.cursors_of.Given as goal

abbrev pub invariant-loop-row : goal.invariant-loop-row
invariant-loop-row l = (side : Side) (terms : List (List ℕ)) → All (IsRowOn side l.section) l.rows → HaveRead side terms l.section 0 [] (take l.row-index l.rows) l.cursors.items
