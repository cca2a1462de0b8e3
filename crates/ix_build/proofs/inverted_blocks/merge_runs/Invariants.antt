use Rattle.std.proofs.Common.{◌≡◌, ◌≤◌, map, take, length, vec_len, All}
use Rattle.std.specs.Vec.{vec_capacity}
use Rattle.ix_run.specs.RunSources.{HasGiven, unread}
use Rattle.ix_run.specs.Sources.{IsUnread}
use Rattle.ix_build.proofs.inverted_blocks.merge_runs.Given as goal

abbrev pub invariant-loop-run : goal.invariant-loop-run
invariant-loop-run g l = record {
  made : l.sources.items ≡ map unread (take l.run-index l.runs);
  unread : All (IsUnread HasGiven) l.sources.items;
  counted : vec_len l.sources ≡ l.run-index;
  room : length l.runs ≤ vec_capacity l.sources;
}
