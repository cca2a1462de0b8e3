use Rattle.std.proofs.Common.{take}
use Rattle.ix_manifest.specs.ManifestText.{AreSegments}
use Rattle.ix_manifest.proofs.lawful.unlawful_segment.Given as goal

abbrev pub invariant-loop-place : goal.invariant-loop-place
invariant-loop-place l = AreSegments l.next (take l.place l.segments)
