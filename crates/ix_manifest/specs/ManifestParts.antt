-- What the parts of a manifest's text are read as.
use Rattle.std.specs.Prelude.{◌≡◌, ◌≢◌, ℕ, ◌^◌, ◌<◌, List, ◌++◌, All, codes}
use Rattle.std.specs.List.{flat_map}
use Rattle.ix_manifest.specs.ManifestText.{IsSegment, segment_text}
use Rattle.ix_manifest.specs.declared.manifest.Segment.{Segment}

-- The bytes do not begin with a word.
abbrev pub IsBehind : List ℕ → List ℕ → Type 0
IsBehind word bytes = (rest : List ℕ) → bytes ≢ word ++ rest

-- The text has the lines of these segments, and then bytes that are no line of a segment.
pub record AreSegmentsOf (next : ℕ) (text : List ℕ) (segments : List Segment) (rest : List ℕ) : Type 0 where
  pub bound : next < 2 ^ 64
  pub each : All (IsSegment next) segments
  pub joined : text ≡ flat_map segment_text segments ++ rest
  pub ended : IsBehind (codes "segment ") rest
