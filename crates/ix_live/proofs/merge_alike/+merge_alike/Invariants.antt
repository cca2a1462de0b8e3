use Rattle.std.proofs.Common.{length}
use Rattle.ix_live.proofs.merge_alike.+merge_alike.Given as goal

abbrev pub decreases-merge_alike : goal.decreases-merge_alike
decreases-merge_alike l = length l.table.now
