use Rattle.std.proofs.Common.{◌≡◌, ◌⊎◌}
use Rattle.ix_files.specs.Drafts.{ChangesDrafts, HasDraft}
use Rattle.ix_files.specs.Locations.{place_of}
use Rattle.ix_files.specs.Views.{GoesOn}
use Rattle.ix_files.proofs.draft.begin.Given as goal

abbrev pub invariant-loop-number : goal.invariant-loop-number
invariant-loop-number g l =
    let view = g.F.Files.view in
    record {
      changes : ChangesDrafts (place_of l.target) (view l.fn.files) (view l.files);
      goes_on : GoesOn (view l.fn.files) (view l.files);
      taken : (view l.files).honest → (l.number ≡ 1) ⊎ HasDraft (place_of l.target) (view l.files);
    }
