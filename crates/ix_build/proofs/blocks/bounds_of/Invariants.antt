use Rattle.std.proofs.Common.{map, take}
use Rattle.ix_text.specs.Docs.{named_text}
use Rattle.ix_build.proofs.BlockLemmas.{AreCut}
use Rattle.ix_build.proofs.blocks.bounds_of.Given as goal

-- the documents before the number are cut
abbrev pub invariant-loop-number : goal.invariant-loop-number
invariant-loop-number l = AreCut l.cut (map named_text (take l.number l.docs)) l.bounds.items l.left
