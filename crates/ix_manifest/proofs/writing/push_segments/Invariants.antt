use Rattle.std.proofs.Common.{◌≡◌, ◌++◌, string_bytes, take}
use Rattle.std.specs.List.{flat_map}
use Rattle.ix_manifest.specs.ManifestText.{segment_text}
use Rattle.ix_manifest.proofs.writing.push_segments.Given as goal

abbrev pub invariant-loop-segment : goal.invariant-loop-segment
invariant-loop-segment l = string_bytes l.text ≡ string_bytes l.initial.text ++ flat_map segment_text (take l.segment-index l.segments)
