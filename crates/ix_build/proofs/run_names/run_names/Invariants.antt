use Rattle.std.proofs.Common.{◌≡◌, ◌≤◌, map, vec_len}
use Rattle.std.specs.Vec.{vec_capacity}
use Rattle.ix_files.specs.Locations.{place_of}
use Rattle.ix_build.specs.RunNames.{AreRunNames}
use Rattle.ix_build.proofs.run_names.run_names.Given as goal

abbrev pub invariant-loop-place : goal.invariant-loop-place
invariant-loop-place l = record {
  named : AreRunNames l.folder (map place_of l.names.items);
  counted : vec_len l.names ≡ l.place;
  room : l.count ≤ vec_capacity l.names;
}
