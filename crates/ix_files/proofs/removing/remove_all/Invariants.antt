use Rattle.std.proofs.Common.{◌<◌, ◌⊎◌, map}
use Rattle.ix_files.specs.Changes.{ChangesOnly}
use Rattle.ix_files.specs.Locations.{place_of}
use Rattle.ix_files.specs.Slots.{IsAmong}
use Rattle.ix_files.specs.Views.{GoesOn}
use Rattle.ix_files.proofs.Gone.{AreGoneBelow}
use Rattle.ix_files.proofs.removing.remove_all.Given as goal

abbrev pub invariant-loop-index : goal.invariant-loop-index
invariant-loop-index g l =
    let view = g.F.Files.view in
    record {
      gone : (view l.files).honest → AreGoneBelow l.index (map place_of l.names) (view l.files).slots ⊎ ((view l.fn.files).faults < (view l.files).faults);
      changes : ChangesOnly (IsAmong (map place_of l.names)) (view l.fn.files) (view l.files);
      goes_on : GoesOn (view l.fn.files) (view l.files);
    }
