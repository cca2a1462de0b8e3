use Rattle.std.proofs.Common.{◌≡◌, ◌-◌, ◌≤◌, List, ℕ, Some, take}
use Rattle.sha2.specs.Hashers.{Holds256}
use Rattle.ix_archive_writer.proofs.digest.digest_of.Given as goal

-- the hasher has what was read
abbrev pub invariant-loop-start : goal.invariant-loop-start
invariant-loop-start g l = record {
  within : l.start ≤ l.size;
  hashed : (bytes : List ℕ) → g.S.ReadAt.contents l.source ≡ Some bytes → Holds256 l.hasher (take l.start bytes);
}

abbrev pub decreases-loop-start : goal.decreases-loop-start
decreases-loop-start g l = l.size - l.start
