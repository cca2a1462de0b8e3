use Rattle.std.proofs.Common.{◌≡◌, ◌≤◌, ◌<◌, ◌+◌, length}
use Rattle.ix_vbyte.specs.Ends.{end_of}
use Rattle.ix_vbyte.proofs.skipping.skip_words.Given as goal

abbrev pub invariant-loop-word : goal.invariant-loop-word
invariant-loop-word l = record {
  some : 0 < l.left;
  within : length l.rest ≤ length l.bytes;
  passed : end_of l.count l.bytes + length l.rest ≡ length l.bytes + end_of l.left l.rest;
}

abbrev pub decreases-loop-word : goal.decreases-loop-word
decreases-loop-word l = length l.rest
