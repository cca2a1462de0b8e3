-- the first so many texts are cut off
use Rattle.std.proofs.Common.{map}
use Rattle.ix_c.proofs.CutLemmas.{AreCutSoFar}
use Rattle.ix_c.proofs.merging.cut.Given as goal

abbrev pub invariant-loop-size : goal.invariant-loop-size
invariant-loop-size l = AreCutSoFar l.initial.bytes l.sizes (map (λ text. text.now) l.texts.items) l.rest l.size-index
