-- No entries are lawful removals.
use Rattle.std.proofs.Common.{ap, subst, sym}
use Rattle.ix_removals.specs.RemovalEntries.{removals_of}
use Rattle.ix_removals.specs.RemovalsText.{AreRemovals}
use Rattle.ix_removals.proofs.TextLemmas.{no_removals}
use Rattle.ix_removals.proofs.removals.Removals.new.Goals as goal

pub invariant_of-result : goal.invariant_of-result
invariant_of-result c = subst AreRemovals (sym (ap removals_of c.new-bounds.ensures.empty)) no_removals
