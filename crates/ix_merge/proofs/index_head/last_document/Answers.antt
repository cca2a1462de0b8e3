use Rattle.ix_merge.proofs.IndexSources.{goes_over}
use Rattle.ix_merge.proofs.index_head.last_document.Goals as goal

pub loop-posting-preserved : goal.loop-posting-preserved
loop-posting-preserved c =
    goes_over c.args.postings c.loop-posting.left c.next.new.self (c.in-Some.posting.document, c.in-Some.posting.positions) c.loop-posting.last c.loop-posting.invariant c.in-Some.ensures.steps
