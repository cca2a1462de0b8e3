use Rattle.std.proofs.Common.{All}
use Rattle.ix_run.specs.RunSources.{HasGiven}
use Rattle.ix_run.specs.Sources.{IsUnread}
use Rattle.ix_tests_merge.proofs.merging.sources_of.Given as goal

abbrev pub invariant-loop-run : goal.invariant-loop-run
invariant-loop-run l = All (IsUnread HasGiven) l.sources.items
