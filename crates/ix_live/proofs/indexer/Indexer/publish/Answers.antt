use Rattle.std.proofs.Common.{◌∙◌, ap}
use Rattle.ix_live.specs.Histories.{operations_of}
use Rattle.ix_live.specs.Identities.{shown_in}
use Rattle.ix_live.proofs.Ahead.{ahead_logged, ahead_published}
use Rattle.ix_live.proofs.indexer.Indexer.publish.Goals as goal

pub invariant_of-self-in_err-replace_with : goal.invariant_of-self-in_err-replace_with
invariant_of-self-in_err-replace_with g c =
    let v = c.self.inside in
    ahead_logged (shown_in v.writer.desk.shown.value) v.next v.prefix v.head c.self.invariant (shown_in c.replace_with.new.dest.desk.shown.value) c.extend.result c.in_err-replace_with.ensures c.extend.ensures.book
    (c.extend.ensures.all ∙ ap operations_of c.past.ensures)

pub invariant_of-self-2 : goal.invariant_of-self-2
invariant_of-self-2 g c =
    let v = c.self.inside in
    ahead_published (shown_in v.writer.desk.shown.value) v.next v.prefix v.head c.self.invariant (shown_in c.replace_with.new.dest.desk.shown.value) c.settle.new.self c.extend.result c.again.result c.settle.ensures
    (c.in_ok-replace_with.ensures ∙ c.in_ok-shown.ensures ∙ c.in_ok-edition.ensures) c.again.ensures c.extend.ensures.book (c.extend.ensures.all ∙ ap operations_of c.past.ensures)
