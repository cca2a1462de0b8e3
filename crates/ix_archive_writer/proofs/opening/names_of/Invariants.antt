use Rattle.std.proofs.Common.{◌++◌, take}
use Rattle.std.specs.Prelude.{All, Contains, IfSome, codes, decimal, map, string_bytes}
use Rattle.ix_archive_writer.proofs.opening.names_of.Given as goal

-- the names of the segments so far are there, and that of the removals
abbrev pub invariant-loop-segment : goal.invariant-loop-segment
invariant-loop-segment l = record {
  segments : All (λ segment. Contains (map string_bytes l.names.items) (codes "segment-" ++ decimal segment.file)) (take l.segment-index l.manifest.segments.items);
  removals : IfSome l.manifest.removals (λ line. Contains (map string_bytes l.names.items) (codes "removals-" ++ decimal line.file));
}
