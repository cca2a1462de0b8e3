use Rattle.ix_live.specs.Identities.{shown_in}
use Rattle.ix_live.proofs.Ahead.{ahead_waiting}
use Rattle.ix_live.proofs.indexer.Indexer.remove.Goals as goal

pub invariant_of-self : goal.invariant_of-self
invariant_of-self c =
    let v = c.self.inside in
    ahead_waiting (shown_in v.writer.desk.shown.value) v.next v.prefix v.head c.self.invariant c.remove.result c.remove.new.self _ c.remove.ensures.same.0 c.remove.ensures.removed c.remove.ensures.kept
