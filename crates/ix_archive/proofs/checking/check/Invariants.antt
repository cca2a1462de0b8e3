use Rattle.std.proofs.Common.{take}
use Rattle.ix_manifest.specs.ManifestText.{view_of}
use Rattle.ix_archive.specs.Checks.{files_of}
use Rattle.ix_archive.proofs.CheckLemmas.{AreChecked}
use Rattle.ix_archive.proofs.checking.check.Given as goal

abbrev pub invariant-loop-place : goal.invariant-loop-place
invariant-loop-place g l =
    AreChecked g.S.ReadAt.contents (files_of (view_of l.opened.manifest)) l.opened.removals (take l.place l.opened.sources.items) (take l.place l.opened.manifest.segments.items) l.stop l.counts l.faults.items
