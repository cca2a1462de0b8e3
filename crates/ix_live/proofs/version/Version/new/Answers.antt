use Rattle.std.specs.Arc.{arc_value}
use Rattle.ix_live.proofs.VersionLemmas.{stored_first}
use Rattle.ix_live.proofs.version.Version.new.Goals as goal

pub invariant_of-result : goal.invariant_of-result
invariant_of-result c = rw (c.new.ensures, c.new-2.ensures.items, c.new-3.ensures.items, c.open.ensures) (stored_first (arc_value c.args.stop))
