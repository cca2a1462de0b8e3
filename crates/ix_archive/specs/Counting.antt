-- Counts of an archive, segment by segment.
use Rattle.std.specs.Prelude.{ℕ, ◌+◌}
use Rattle.ix_manifest.specs.declared.manifest.Segment.{Segment}
use Rattle.ix_archive.specs.declared.checked.Counts.{Counts}

-- the counts of nothing
abbrev pub no_counts : Counts
no_counts = record { documents = 0; removed = 0; segments = 0; bytes = 0 }

-- the counts and those of one more segment, of whose documents so many are removed
abbrev pub counts_with : Counts → Segment → ℕ → Counts
counts_with counts segment removed = record {
  documents = counts.documents + segment.documents;
  removed = counts.removed + removed;
  segments = counts.segments + 1;
  bytes = counts.bytes + segment.bytes;
}
