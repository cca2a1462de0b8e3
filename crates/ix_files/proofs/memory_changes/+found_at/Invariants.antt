use Rattle.std.proofs.Common.{length}
use Rattle.ix_files.proofs.memory_changes.+found_at.Given as goal

abbrev pub decreases-found_at : goal.decreases-found_at
decreases-found_at l = length l.changes.now
