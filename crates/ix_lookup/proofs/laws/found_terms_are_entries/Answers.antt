use Rattle.ix_lookup.proofs.EntryLemmas.{finds_entries}
use Rattle.ix_lookup.proofs.laws.found_terms_are_entries.Goals as goal

pub returns : goal.returns
returns g c = finds_entries (g.M.TermMatcher.wants c.args._matcher.now)
