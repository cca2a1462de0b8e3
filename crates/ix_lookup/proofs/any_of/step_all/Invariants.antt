use Rattle.ix_lookup.proofs.MatcherLemmas.{HasStepped}
use Rattle.ix_lookup.proofs.any_of.step_all.Given as goal

abbrev pub invariant-loop-place : goal.invariant-loop-place
invariant-loop-place g l = HasStepped g.M.TermMatcher.wants g.M.TermMatcher.is_at l.shared l.own l.fn.matchers.items l.matchers.items l.place l.found
