use Rattle.std.proofs.Common.{map, string_bytes}
use Rattle.ix_files.specs.Locations.{place_of}
use Rattle.ix_folder.proofs.Lists.{AreStrays}
use Rattle.ix_folder.proofs.sweeping.strays_of.Given as goal

abbrev pub invariant-loop-name : goal.invariant-loop-name
invariant-loop-name l = AreStrays string_bytes l.folder (map string_bytes l.keep) l.names l.name-index (map place_of l.strays.items)
