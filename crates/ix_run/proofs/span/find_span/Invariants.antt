use Rattle.std.proofs.Common.{ℕ, ◌<◌, ◌≤◌, ◌-◌, get_or, length}
use Rattle.ix_run.proofs.span.find_span.Given as goal

-- the documents before end at the place or earlier
abbrev pub invariant-loop-document : goal.invariant-loop-document
invariant-loop-document l = record {
  within : l.document ≤ length l.ends;
  before : (k : ℕ) → k < l.document → get_or l.ends k 0 ≤ l.place;
}

abbrev pub decreases-loop-document : goal.decreases-loop-document
decreases-loop-document l = length l.ends - l.document
