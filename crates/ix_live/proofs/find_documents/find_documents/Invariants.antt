use Rattle.std.proofs.Common.{◌≡◌, length, take}
use Rattle.ix_live.specs.Findings.{AreFound}
use Rattle.ix_live.specs.Segments.{rows_in}
use Rattle.ix_live.proofs.find_documents.find_documents.Given as goal

abbrev pub invariant-loop-slot : goal.invariant-loop-slot
invariant-loop-slot l = record {
  first : l.first ≡ length (rows_in (take l.slot-index l.segments));
  found : AreFound (take l.slot-index l.segments) l.removed l.query l.found.items;
}
