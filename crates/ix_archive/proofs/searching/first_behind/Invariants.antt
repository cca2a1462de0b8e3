use Rattle.std.proofs.Common.{◌≡◌, take}
use Rattle.ix_archive.specs.OpenedArchives.{first_after}
use Rattle.ix_archive.proofs.searching.first_behind.Given as goal

abbrev pub invariant-loop-segment : goal.invariant-loop-segment
invariant-loop-segment l = l.first ≡ first_after (take l.segment-index l.segments)
