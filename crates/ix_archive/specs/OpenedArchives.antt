-- An archive that is open to be searched, and what is found in one of its segments.
use Rattle.std.specs.Prelude.{◌≡◌, ◌-◌, ◌^◌, ℕ, List, map, min, Option, Some, Result, MatchResult, slice_get, sum_by, take}
use Rattle.ix_text.specs.Collections.{Collection}
use Rattle.ix_index_text.specs.Sections.{Version}
use Rattle.ix_extract.specs.Projections.{HasIndexText}
use Rattle.ix_manifest.specs.ManifestText.{view_of}
use Rattle.ix_manifest.specs.declared.manifest.Segment.{Segment}
use Rattle.ix_ask.specs.declared.output.Lines.{Lines}
use Rattle.ix_archive.specs.Archives.{Archive}
use Rattle.ix_archive.specs.Findings.{FindsIn, RefusesFinding}
use Rattle.ix_archive.specs.Layouts.{IsLaidOut}
use Rattle.ix_archive.specs.declared.opened.Opened.{Opened}
use Rattle.ix_archive.specs.declared.read_error.ReadError.{ReadError}

-- What is open is the archive: its manifest, its removals, and the files of its segments.
pub record IsOpenedArchive {S : Type 0} (contents : S → Option (List ℕ)) (archive : Archive) (opened : Opened S) : Type 0 where
  pub texts : List (List ℕ)
  pub removals_file : Option (List ℕ)
  pub laid : IsLaidOut archive (view_of opened.manifest) texts removals_file
  pub removals : opened.removals ≡ archive.removals
  pub told : map contents opened.sources.items ≡ map (λ text. Some text) texts

-- how many documents segments have, or the largest number of 64 bits if that is fewer
abbrev pub first_after : List Segment → ℕ
first_after segments = min (sum_by (λ segment. segment.documents) segments) (2 ^ 64 - 1)

-- What a query finds in the segment of that place was returned, or why it finds nothing.
abbrev pub AnswersAt : {S : Type 0} → (S → Option (List ℕ)) → Opened S → ℕ → List ℕ → Result Lines ReadError → Type 0
AnswersAt {S} contents opened place query result =
    (source : S) (version : Version) (collection : Collection) → slice_get opened.sources.items place ≡ Some source → HasIndexText (contents source) version collection
    → MatchResult result (λ lines. FindsIn collection opened.removals (first_after (take place opened.manifest.segments.items)) query lines.bytes.items lines.count)
    (RefusesFinding collection.stop query)
