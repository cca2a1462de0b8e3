use Rattle.ix_lookup.proofs.ScanLemmas.{IsScanned}
use Rattle.ix_lookup.proofs.find.find_terms.Given as goal

abbrev pub invariant-loop-place : goal.invariant-loop-place
invariant-loop-place g l =
    IsScanned l.dictionary (g.S.ReadAt.contents l.source) (g.M.TermMatcher.wants l.fn.matcher) (g.M.TermMatcher.wants l.matcher) (g.M.TermMatcher.is_at l.matcher) l.place l.start l.pieces l.found.items
