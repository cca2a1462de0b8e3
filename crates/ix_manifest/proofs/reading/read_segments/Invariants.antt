use Rattle.std.proofs.Common.{◌≡◌, ◌++◌, ℕ, List, length}
use denote.Text.{Utf8}
use denote.Shadow.{shadow}
use Rattle.ix_manifest.specs.ManifestParts.{AreSegmentsOf}
use Rattle.ix_manifest.specs.declared.manifest.Segment.{Segment}
use Rattle.ix_manifest.proofs.reading.read_segments.Given as goal

abbrev pub invariant-loop-fields : goal.invariant-loop-fields
invariant-loop-fields l = record {
  characters : shadow (Utf8 l.left);
  more : (next : ℕ) (segments : List Segment) (rest : List ℕ) → AreSegmentsOf next l.text segments rest
      → (others : List Segment) × (segments ≡ l.segments.items ++ others) × AreSegmentsOf next l.left others rest;
}

abbrev pub decreases-loop-fields : goal.decreases-loop-fields
decreases-loop-fields l = length l.left
