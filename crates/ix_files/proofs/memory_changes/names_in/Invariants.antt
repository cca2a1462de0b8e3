use Rattle.std.proofs.Common.{drop, map, string_bytes}
use Rattle.ix_files.proofs.Listing.{AreGathered}
use Rattle.ix_files.proofs.memory_changes.names_in.Given as goal

abbrev pub invariant-loop-change : goal.invariant-loop-change
invariant-loop-change l = AreGathered l.folder (map string_bytes l.names.items) l.changes (drop l.change-index l.changes)
