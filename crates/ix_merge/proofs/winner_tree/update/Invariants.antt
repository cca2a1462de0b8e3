use Rattle.std.proofs.Common.{◌<◌, ◌≤◌, length}
use Rattle.ix_merge.specs.Keys.{keys_of}
use Rattle.ix_merge.specs.WinnerTrees.{IsSettledBut}
use Rattle.ix_merge.proofs.winner_tree.update.Given as goal

abbrev pub invariant-loop-node : goal.invariant-loop-node
invariant-loop-node g l = (1 ≤ l.node) × (l.node < length l.tree) × IsSettledBut (keys_of g.S.Source.heading g.S.Source.current l.sources) l.tree l.node

abbrev pub decreases-loop-node : goal.decreases-loop-node
decreases-loop-node g l = l.node
