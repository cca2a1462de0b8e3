use Rattle.std.proofs.Common.{All}
use Rattle.ix_run.specs.Sources.{IsUnread}
use Rattle.ix_merge.specs.AnySources.{SourceHasGiven}
use Rattle.ix_tests_merge.proofs.merging.mixed.sources_in.Given as goal

abbrev pub invariant-loop-block : goal.invariant-loop-block
invariant-loop-block g l = All (IsUnread SourceHasGiven) l.sources.items
