use Rattle.std.proofs.Common.{◌≡◌, ◌-◌, ◌≤◌, length, map, take}
use Rattle.ix_files.specs.Reading.{held_in}
use Rattle.ix_script.specs.Runs.{Changes}
use Rattle.ix_script.specs.Steps.{step_of}
use Rattle.ix_script.specs.Stops.{progress_of}
use Rattle.ix_script.proofs.change.change_all.Given as goal

abbrev pub invariant-loop-place : goal.invariant-loop-place
invariant-loop-place g l = record {
  within : l.place ≤ length l.group;
  stop : l.indexer.stop ≡ l.fn.indexer.stop;
  book : l.indexer.book ≡ l.fn.indexer.book;
  published : l.indexer.published ≡ l.fn.indexer.published;
  changed : Changes (held_in (g.F.Files.view l.files)) l.fn.indexer.stop (map step_of (take l.place l.group)) (progress_of l.fn.indexer) (progress_of l.indexer);
}

abbrev pub decreases-loop-place : goal.decreases-loop-place
decreases-loop-place g l = length l.group - l.place
