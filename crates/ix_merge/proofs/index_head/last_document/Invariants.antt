use Rattle.std.proofs.Common.{length}
use Rattle.ix_merge.proofs.IndexSources.{GoesOver}
use Rattle.ix_merge.proofs.index_head.last_document.Given as goal

abbrev pub invariant-loop-posting : goal.invariant-loop-posting
invariant-loop-posting l = GoesOver l.fn.postings l.left l.last

abbrev pub decreases-loop-posting : goal.decreases-loop-posting
decreases-loop-posting l = length l.left
