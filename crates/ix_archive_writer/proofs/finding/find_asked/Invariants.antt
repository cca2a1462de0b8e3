use Rattle.std.proofs.Common.{◌<◌, ◌^◌}
use Rattle.std.specs.Prelude.{map, string_bytes}
use Rattle.ix_archive_writer.proofs.FindingLemmas.{TakenSoFar}
use Rattle.ix_archive_writer.proofs.finding.find_asked.Given as goal

abbrev pub invariant-loop-segment : goal.invariant-loop-segment
invariant-loop-segment g l = record {
  small : l.next < 2 ^ 64;
  taken : (g.F.Files.view l.files).honest → TakenSoFar l.asked l.removed l.folder (g.F.Files.view l.files).slots l.segments l.segment-index (map string_bytes l.taken.items) l.next;
}
