use Rattle.std.proofs.Common.{take}
use Rattle.ix_archive_writer.proofs.LawfulNames.{AreLawful}
use Rattle.ix_archive_writer.proofs.removals.lawful_names.Given as goal

abbrev pub invariant-loop-name : goal.invariant-loop-name
invariant-loop-name l = AreLawful (take l.name-index l.names) l.lawful.items
