use Rattle.ix_live.specs.Identities.{shown_in}
use Rattle.ix_live.proofs.Ahead.{ahead_waiting}
use Rattle.ix_live.proofs.indexer.Indexer.add.Goals as goal

pub invariant_of-self : goal.invariant_of-self
invariant_of-self g c =
    let v = c.self.inside in
    ahead_waiting (shown_in v.writer.desk.shown.value) v.next v.prefix v.head c.self.invariant c.add.result c.add.new.self _ c.add.ensures.same c.add.ensures.added c.add.ensures.kept
