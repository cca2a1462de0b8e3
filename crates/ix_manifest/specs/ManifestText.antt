-- The text of a manifest, and which manifests are lawful.
use Rattle.std.specs.Prelude.{◌≡◌, ◌≢◌, ℕ, ◌^◌, ◌<◌, ◌≤◌, List, [], ◌∷◌, ◌++◌, All, AllPairs, Option, None, Some, IfSome, codes, decimal, length}
use Rattle.std.specs.List.{flat_map}
use Rattle.hex.specs.Hex.{IsBytes, encode_lower}
use Rattle.sha2.specs.Sha256.{sha256}
use Rattle.ix_manifest.specs.declared.manifest.Manifest.{Manifest}
use Rattle.ix_manifest.specs.declared.manifest.Removals.{Removals}
use Rattle.ix_manifest.specs.declared.manifest.Segment.{Segment}

-- What a manifest says.
pub record ManifestView : Type 0 where
  pub next : ℕ
  pub segments : List Segment
  pub removals : Option Removals

-- what a manifest of the program says
abbrev pub view_of : Manifest → ManifestView
view_of manifest =
    record { next = manifest.next; segments = manifest.segments.items; removals = manifest.removals }

-- ---- the text

-- the fields of a line: a file, a count, how many bytes the file has, and their digest
abbrev pub fields_text : ℕ → ℕ → ℕ → List ℕ → List ℕ
fields_text file count bytes digest =
    decimal file ++ codes " " ++ decimal count ++ codes " " ++ decimal bytes ++ codes " "
    ++ encode_lower digest ++ 10 ∷ []

-- the fields of a segment
abbrev pub segment_fields : Segment → List ℕ
segment_fields segment = fields_text segment.file segment.documents segment.bytes segment.digest

-- the line of a segment
abbrev pub segment_text : Segment → List ℕ
segment_text segment = codes "segment " ++ segment_fields segment

-- the line of the removals, if there are any
abbrev pub removals_text : Option Removals → List ℕ
removals_text None = []
removals_text (Some removals) =
    codes "removals " ++ fields_text removals.file removals.count removals.bytes removals.digest

-- the first two lines
abbrev pub head_text : ℕ → List ℕ
head_text next = codes "ix archive 1" ++ 10 ∷ codes "next " ++ decimal next ++ 10 ∷ []

-- all lines but the last one
unfoldable pub body_text : ManifestView → List ℕ
body_text view = head_text view.next ++ flat_map segment_text view.segments ++ removals_text view.removals

-- the line of the digest of these bytes
abbrev pub end_text : List ℕ → List ℕ
end_text bytes = codes "end " ++ encode_lower (sha256 bytes) ++ 10 ∷ []

-- the text of a manifest
unfoldable pub manifest_text : ManifestView → List ℕ
manifest_text view = body_text view ++ end_text (body_text view)

-- ---- lawful manifests

-- The fields of a line: the file has a number below that of the next one, and the digest has 32 bytes.
pub record AreFields (next file count bytes : ℕ) (digest : List ℕ) : Type 0 where
  pub below : file < next
  pub counted : count < 2 ^ 64
  pub sized : bytes < 2 ^ 64
  pub long : length digest ≡ 32
  pub octets : IsBytes digest

-- A segment has at most 2^28 documents.
pub record IsSegment (next : ℕ) (segment : Segment) : Type 0 where
  pub fields : AreFields next segment.file segment.documents segment.bytes segment.digest
  pub few : segment.documents ≤ 2 ^ 28

-- No two segments have the same file.
pub record AreSegments (next : ℕ) (segments : List Segment) : Type 0 where
  pub each : All (IsSegment next) segments
  pub apart : AllPairs (λ one other. one.file ≢ other.file) segments

-- The removals have a file that no segment has.
pub record IsRemovals (next : ℕ) (segments : List Segment) (removals : Removals) : Type 0 where
  pub fields : AreFields next removals.file removals.count removals.bytes removals.digest
  pub apart : All (λ segment. segment.file ≢ removals.file) segments

-- The manifest is lawful.
pub record IsManifest (view : ManifestView) : Type 0 where
  pub bound : view.next < 2 ^ 64
  pub segments : AreSegments view.next view.segments
  pub removals : IfSome view.removals (IsRemovals view.next view.segments)
