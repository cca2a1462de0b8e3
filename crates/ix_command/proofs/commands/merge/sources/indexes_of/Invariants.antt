-- the indexes so far
use Rattle.std.proofs.Common.{◌≡◌, take}
use Rattle.ix_command.proofs.commands.merge.sources.indexes_of.Given as goal

abbrev pub invariant-loop-volume : goal.invariant-loop-volume
invariant-loop-volume l = l.indexes.items ≡ take l.volume-index l.volumes
