use Rattle.std.proofs.Common.{◌≡◌, take}
use Rattle.ix_live.proofs.version.share_segments.Given as goal

abbrev pub invariant-loop-slot : goal.invariant-loop-slot
invariant-loop-slot l = l.table.items ≡ take l.slot-index l.segments.items
