use Rattle.std.proofs.Common.{◌≡◌, ◌+◌, length, take}
use Rattle.ix_live.specs.Segments.{rows_in}
use Rattle.ix_live.proofs.find_names.find_name.Given as goal

abbrev pub invariant-loop-slot : goal.invariant-loop-slot
invariant-loop-slot l = l.number ≡ length (rows_in (take l.slot-index l.segments)) + l.left
