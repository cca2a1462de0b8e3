use Rattle.std.proofs.Common.{◌≡◌, map, string_bytes, take}
use Rattle.ix_archive_writer.specs.Changes.{texts_in}
use Rattle.ix_archive_writer.proofs.removals.texts_of.Given as goal

abbrev pub invariant-loop-name : goal.invariant-loop-name
invariant-loop-name l = texts_in l.texts.items ≡ map string_bytes (take l.name-index l.names)
