use Rattle.std.proofs.Common.{◌≡◌, reverse, vec_len}
use Rattle.ix_query_text.specs.Judgement.{drop_holes}
use Rattle.ix_query_text.proofs.judge.pop_holes.Given as goal

abbrev pub invariant-loop-entries : goal.invariant-loop-entries
invariant-loop-entries l = reverse (drop_holes (reverse l.entries.items)) ≡ reverse (drop_holes (reverse l.initial.entries.items))

abbrev pub decreases-loop-entries : goal.decreases-loop-entries
decreases-loop-entries l = vec_len l.entries
