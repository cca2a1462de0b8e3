use Rattle.std.proofs.Common.{◌≡◌, ◌+◌, drop}
use Rattle.ix_vbyte.specs.Ends.{end_of}
use Rattle.ix_vbyte.proofs.skipping.skip_bytes.Given as goal

abbrev pub invariant-loop-place : goal.invariant-loop-place
invariant-loop-place l = l.place + end_of l.left (drop l.place l.bytes) ≡ end_of l.count l.bytes
