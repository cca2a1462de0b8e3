use Rattle.std.proofs.Common.{◌-◌, ◌≤◌, length}
use Rattle.ix_file.proofs.open.lists.first_behind.Given as goal

abbrev pub invariant-loop-low : goal.invariant-loop-low
invariant-loop-low l = record { low : l.low ≤ l.high; high : l.high ≤ length l.terms }

abbrev pub decreases-loop-low : goal.decreases-loop-low
decreases-loop-low l = l.high - l.low
