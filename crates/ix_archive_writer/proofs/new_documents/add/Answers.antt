use Rattle.std.proofs.Common.{◌≡◌, ◌∙◌, [], ◌∷◌, List, ℕ, Some, subst, sym}
use Rattle.std.proofs.lemmas.Result.{on_ok_weaker}
use Rattle.ix_files.specs.Views.{LeavesOnly}
use Rattle.ix_folder.proofs.Laws.{narrowed}
use Rattle.ix_archive.specs.Folders.{IsArchiveAt}
use Rattle.ix_archive_writer.specs.Changes.{after_adding, stop_given}
use Rattle.ix_archive_writer.specs.Commits.{IsLeftArchive, LeavesAmong}
use Rattle.ix_archive_writer.proofs.Going.{then_leaves}
use Rattle.ix_archive_writer.proofs.OpeningLemmas.{among_more, at_but_lock, same_moments, same_places, same_stops}
use Rattle.ix_files.proofs.Drafting.{changed_again}
use Rattle.ix_archive_writer.proofs.FolderChanges.{no_file_in, same_folder}
use Rattle.ix_archive_writer.proofs.new_documents.add.Goals as goal

pub returns-in_err-make_folder-clause-any_moment : goal.returns-in_err-make_folder-clause-any_moment
returns-in_err-make_folder-clause-any_moment g c honest among now named leaves at =
    narrowed (among_more ((g.F.Files.view c.args.files.now).folder c.args.path.now) _ among) (same_moments ((g.F.Files.view c.args.files.now).folder c.args.path.now) among c.make_folder.ensures.changes honest leaves)

pub returns-in-Err-clause-any_moment : goal.returns-in-Err-clause-any_moment
returns-in-Err-clause-any_moment g c honest among now named leaves at =
    narrowed (among_more ((g.F.Files.view c.args.files.now).folder c.args.path.now) _ among) (same_moments ((g.F.Files.view c.args.files.now).folder c.args.path.now) among c.make_folder.ensures.changes honest leaves)

pub returns-clause-done : goal.returns-clause-done
returns-clause-done g c = on_ok_weaker c.add_in.result
    (λ done honest now at.
    let made = c.add_in.ensures.goes_on.honest honest in
    let folder = (g.F.Files.view c.args.files.now).folder c.args.path.now in
    let same : c.as_str.result.now ≡ folder = c.as_str.ensures.value ∙ c.in-Ok.ensures.located made ∙ c.make_folder.ensures.goes_on.folders made c.args.path.now in
    subst (λ (f : List ℕ). LeavesAmong f (Some (after_adding now (stop_given c.args.stop) c.args.documents.now) ∷ []) (g.F.Files.view c.add_in.new.files).slots) same
    (done honest now
    (subst (λ (f : List ℕ). IsArchiveAt f now (g.F.Files.view c.make_folder.new.files).slots) (sym same)
    (at_but_lock folder now _ _ (λ place off. same_places c.make_folder.ensures.changes made place) at))))
    c.add_in.ensures.done

pub returns-clause-any_moment : goal.returns-clause-any_moment
returns-clause-any_moment g c honest among now named leaves at =
    let made = c.add_in.ensures.goes_on.honest honest in
    let folder = (g.F.Files.view c.args.files.now).folder c.args.path.now in
    let same : c.as_str.result.now ≡ folder = c.as_str.ensures.value ∙ c.in-Ok.ensures.located made ∙ c.make_folder.ensures.goes_on.folders made c.args.path.now in
    then_leaves (narrowed (among_more folder _ among) (same_moments folder among c.make_folder.ensures.changes made leaves))
    (subst (λ (f : List ℕ). LeavesOnly (IsLeftArchive f (Some (after_adding now (stop_given c.args.stop) c.args.documents.now) ∷ among)) (g.F.Files.view c.make_folder.new.files) (g.F.Files.view c.add_in.new.files)) same
    (c.add_in.ensures.any_moment honest among now named
    (subst (λ (f : List ℕ). LeavesAmong f among (g.F.Files.view c.make_folder.new.files).slots) (sym same) (same_stops folder among c.make_folder.ensures.changes made leaves))
    (subst (λ (f : List ℕ). IsArchiveAt f now (g.F.Files.view c.make_folder.new.files).slots) (sym same)
    (at_but_lock folder now _ _ (λ place off. same_places c.make_folder.ensures.changes made place) at))))

pub returns-in_err-make_folder-clause-changes : goal.returns-in_err-make_folder-clause-changes
returns-in_err-make_folder-clause-changes g c = no_file_in ((g.F.Files.view c.args.files.now).folder c.args.path.now) c.make_folder.ensures.changes

pub returns-in-Err-clause-changes : goal.returns-in-Err-clause-changes
returns-in-Err-clause-changes g c = no_file_in ((g.F.Files.view c.args.files.now).folder c.args.path.now) c.make_folder.ensures.changes

pub returns-clause-changes : goal.returns-clause-changes
returns-clause-changes g c =
    let folder = (g.F.Files.view c.args.files.now).folder c.args.path.now in
    changed_again (no_file_in folder c.make_folder.ensures.changes)
    (same_folder c.as_str.result.now folder
    (λ honest.
    let made = c.add_in.ensures.goes_on.honest honest in
    c.as_str.ensures.value ∙ c.in-Ok.ensures.located made ∙ c.make_folder.ensures.goes_on.folders made c.args.path.now)
    c.add_in.ensures.changes)
    c.add_in.ensures.goes_on.honest
