use Rattle.ix_files.specs.Drafts.{ChangesDrafts}
use Rattle.ix_files.specs.Locations.{place_of}
use Rattle.ix_files.specs.Views.{GoesOn}
use Rattle.ix_files.proofs.draft.remove_left.Given as goal

abbrev pub invariant-loop-number : goal.invariant-loop-number
invariant-loop-number g l =
    let view = g.F.Files.view in
    record {
      changes : ChangesDrafts (place_of l.target) (view l.fn.files) (view l.files);
      goes_on : GoesOn (view l.fn.files) (view l.files);
    }
