use Rattle.std.proofs.Common.{All}
use Rattle.ix_run.specs.Reading.{HasRead}
use Rattle.ix_run.specs.Sources.{IsUnread}
use Rattle.ix_tests_merge.proofs.merging.opened.Given as goal

abbrev pub invariant-loop-reader : goal.invariant-loop-reader
invariant-loop-reader g l = All (IsUnread HasRead) l.sources.items
