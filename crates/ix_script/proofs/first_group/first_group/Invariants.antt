use Rattle.std.proofs.Common.{◌-◌, ◌≤◌, length}
use Rattle.ix_script.proofs.GroupLemmas.{NonePublish}
use Rattle.ix_script.proofs.first_group.first_group.Given as goal

abbrev pub invariant-loop-place : goal.invariant-loop-place
invariant-loop-place l = record {
  within : l.place ≤ length l.steps;
  quiet : NonePublish l.place l.steps;
}

abbrev pub decreases-loop-place : goal.decreases-loop-place
decreases-loop-place l = length l.steps - l.place
