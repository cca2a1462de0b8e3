use Rattle.ix_run.proofs.RunFiles.{TakesList}
use Rattle.ix_run.proofs.read.read_term.Given as goal

abbrev pub invariant-loop-list : goal.invariant-loop-list
invariant-loop-list g l = TakesList g.R.Read.remaining l.fn.reader l.reader l.next l.documents l.list.items

abbrev pub decreases-loop-list : goal.decreases-loop-list
decreases-loop-list g l = l.reader.documents
