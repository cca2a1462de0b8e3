use Rattle.std.proofs.Common.{◌≡◌, ◌-◌, ◌≤◌, ◌⊎◌, length, map, take}
use Rattle.ix_files.specs.Reading.{held_in}
use Rattle.ix_script.specs.Scripts.{ArePublished}
use Rattle.ix_script.specs.Steps.{step_of}
use Rattle.ix_script.specs.Stops.{IsTeamOf, progress_of}
use Rattle.ix_script.specs.Stretches.{CarriesOut}
use Rattle.ix_script.proofs.run.run_on.Given as goal

abbrev pub invariant-loop-place : goal.invariant-loop-place
invariant-loop-place g l = record {
  within : l.place ≤ length l.steps;
  stop : l.indexer.stop ≡ l.fn.indexer.stop;
  team : IsTeamOf l.indexer l.team;
  published : ArePublished (map step_of (take l.place l.steps)) ⊎ l.place ≡ length l.steps;
  carried : CarriesOut (held_in (g.F.Files.view l.files)) l.fn.indexer.stop (map step_of (take l.place l.steps)) (progress_of l.fn.indexer) (progress_of l.indexer)
      (g.W.Write.contents l.fn.out) (g.W.Write.contents l.out) l.found;
}

abbrev pub decreases-loop-place : goal.decreases-loop-place
decreases-loop-place g l = length l.steps - l.place
