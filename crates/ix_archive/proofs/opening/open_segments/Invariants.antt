use Rattle.ix_archive.proofs.OpenLemmas.{OpenedSoFar}
use Rattle.ix_archive.proofs.opening.open_segments.Given as goal

abbrev pub invariant-loop-segment : goal.invariant-loop-segment
invariant-loop-segment g l =
    OpenedSoFar g.F.Ranges.ReadAt.contents (g.F.Files.view l.files) l.folder l.segments l.segment-index l.sources.items
