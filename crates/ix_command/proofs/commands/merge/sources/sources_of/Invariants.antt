-- the sources so far are those of the parts so far
use Rattle.std.proofs.Common.{◌≡◌, length}
use Rattle.std.specs.Vec.Iter.{into_iter_items, into_iter_len}
use Rattle.ix_command.proofs.MergedFileLemmas.{MadeSoFar}
use Rattle.ix_command.proofs.commands.merge.sources.sources_of.Given as goal

abbrev pub invariant-loop-part : goal.invariant-loop-part
invariant-loop-part g l = record {
  made : MadeSoFar l.indexes l.fn.parts.items (into_iter_items l.part-iterator) l.sources.items;
  counted : into_iter_len l.part-iterator ≡ length (into_iter_items l.part-iterator);
}
