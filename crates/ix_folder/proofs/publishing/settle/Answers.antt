use Rattle.std.proofs.Common.{refl, ap, ◌∙◌}
use Rattle.ix_files.specs.Slots.{at_rest}
use Rattle.ix_files.proofs.Drafting.{changed, unchanged}
use Rattle.ix_files.proofs.Moments.{settled_now, stays}
use Rattle.ix_folder.specs.FolderNames.{manifest_place}
use Rattle.ix_folder.specs.Standings.{IsFileOf, IsKeptIn, RestsIn, files_of}
use Rattle.ix_folder.proofs.Laws.{all_by}
use Rattle.ix_folder.proofs.Preparing.{begun, then_settled}
use Rattle.ix_folder.proofs.publishing.settle.Goals as goal

pub returns-clause-settled : goal.returns-clause-settled
returns-clause-settled g c honest now stands names =
    let settles = c.in_ok-sync_folder.ensures.settled honest in
    record {
      manifest = settles.inside (manifest_place c.args.folder.now) refl ∙ ap at_rest stands.manifest;
      files = all_by (IsKeptIn (g.F.Files.view c.args.files.now).slots) (IsFileOf c.args.folder.now) (RestsIn (g.F.Files.view c.sync_folder.new.self).slots)
          (λ file is_kept is. settles.inside file.place is.inside ∙ ap at_rest is_kept) (files_of now) stands.files names;
    }

pub returns-clause-stays : goal.returns-clause-stays
returns-clause-stays g c honest place = stays (c.sync_folder.ensures.call.passes honest) place (λ did. settled_now _ _ _ did place)

pub returns-in_err-sync_folder-clause-stays : goal.returns-in_err-sync_folder-clause-stays
returns-in_err-sync_folder-clause-stays g c honest place = stays (c.sync_folder.ensures.call.passes honest) place (λ did. settled_now _ _ _ did place)

pub returns-clause-any_moment : goal.returns-clause-any_moment
returns-clause-any_moment g c honest =
    (then_settled (begun (g.F.Files.view c.args.files.now) (g.met.F.Files.only_now c.args.files.now)) (c.sync_folder.ensures.call.passes honest)).moments

pub returns-in_err-sync_folder-clause-any_moment : goal.returns-in_err-sync_folder-clause-any_moment
returns-in_err-sync_folder-clause-any_moment g c honest =
    (then_settled (begun (g.F.Files.view c.args.files.now) (g.met.F.Files.only_now c.args.files.now)) (c.sync_folder.ensures.call.passes honest)).moments

pub returns-clause-changes : goal.returns-clause-changes
returns-clause-changes g c = changed (unchanged _ _ (g.met.F.Files.only_now c.args.files.now)) c.sync_folder.ensures.call (λ slots did place other. did.outside place other)

pub returns-in_err-sync_folder-clause-changes : goal.returns-in_err-sync_folder-clause-changes
returns-in_err-sync_folder-clause-changes g c = changed (unchanged _ _ (g.met.F.Files.only_now c.args.files.now)) c.sync_folder.ensures.call (λ slots did place other. did.outside place other)
