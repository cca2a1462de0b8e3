use Rattle.std.proofs.Common.{take}
use Rattle.ix_archive.proofs.PartLemmas.{JoinedSoFar}
use Rattle.ix_archive.proofs.searching.join_parts.Given as goal

abbrev pub invariant-loop-part : goal.invariant-loop-part
invariant-loop-part l = JoinedSoFar (take l.part-index l.parts) l.bytes.items l.count
