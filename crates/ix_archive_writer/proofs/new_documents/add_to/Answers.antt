use Rattle.std.proofs.Common.{[], ◌∷◌, Some}
use Rattle.std.proofs.lemmas.Result.{on_ok_weaker}
use Rattle.ix_archive.specs.Archives.{Archive}
use Rattle.ix_files.specs.Views.{LeavesOnly}
use Rattle.ix_archive_writer.specs.Changes.{stop_given}
use Rattle.ix_archive_writer.specs.Commits.{IsLeftArchive, LeavesAmong}
use Rattle.ix_archive_writer.proofs.AddingLemmas.{added_found, added_new, found_leaves, no_texts, nothing_added}
use Rattle.ix_archive_writer.proofs.FolderChanges.{none_in}
use Rattle.ix_archive_writer.proofs.new_documents.add_to.Goals as goal

pub returns-in_err-own-clause-any_moment : goal.returns-in_err-own-clause-any_moment
returns-in_err-own-clause-any_moment g c honest now found = found_leaves c.args.folder.now _ now _ (g.met.F.Files.only_now c.args.files.now) found

pub returns-then-is_empty-clause-done : goal.returns-then-is_empty-clause-done
returns-then-is_empty-clause-done g c honest now found =
    nothing_added c.args.folder.now now c.args.manifest c.in-Some.manifest (stop_given c.args.stop) c.args.documents.now _ c.in-Some.is (no_texts _ c.docs.result.now c.args.documents.now c.docs.ensures.documents c.if-is_empty.ensures) found

pub returns-then-is_empty-clause-any_moment : goal.returns-then-is_empty-clause-any_moment
returns-then-is_empty-clause-any_moment g c honest now found = found_leaves c.args.folder.now _ now _ (g.met.F.Files.only_now c.args.files.now) found

pub returns-in-Some-clause-done : goal.returns-in-Some-clause-done
returns-in-Some-clause-done g c = on_ok_weaker c.add_segment.result
    (λ done honest now found.
    added_found c.args.folder.now now c.args.manifest c.in-Some.manifest (stop_given c.args.stop) c.in_ok-own.own c.args.documents.now (g.F.Files.view c.args.files.now).slots
    (λ (after : Archive). LeavesAmong c.args.folder.now (Some after ∷ []) (g.F.Files.view c.add_segment.new.files).slots) c.in-Some.is (c.in_ok-own.ensures (c.add_segment.ensures.goes_on.honest honest) now found) found
    (λ base same ready. done honest now base same ready))
    c.add_segment.ensures.done

pub returns-in-Some-clause-any_moment : goal.returns-in-Some-clause-any_moment
returns-in-Some-clause-any_moment g c honest now found =
    added_found c.args.folder.now now c.args.manifest c.in-Some.manifest (stop_given c.args.stop) c.in_ok-own.own c.args.documents.now (g.F.Files.view c.args.files.now).slots
    (λ (after : Archive). LeavesOnly (IsLeftArchive c.args.folder.now (Some after ∷ now ∷ [])) (g.F.Files.view c.args.files.now) (g.F.Files.view c.add_segment.new.files)) c.in-Some.is
    (c.in_ok-own.ensures (c.add_segment.ensures.goes_on.honest honest) now found) found (λ base same ready. c.add_segment.ensures.any_moment honest now base same ready)

pub returns-clause-done : goal.returns-clause-done
returns-clause-done g c = on_ok_weaker c.add_segment-in-None.result
    (λ done honest now found.
    added_new c.args.folder.now now c.args.manifest c.new.result.items (stop_given c.args.stop) c.in_ok-own.own c.args.documents.now (g.F.Files.view c.args.files.now).slots
    (λ (after : Archive). LeavesAmong c.args.folder.now (Some after ∷ []) (g.F.Files.view c.add_segment-in-None.new.files).slots) c.in-None.is c.new.ensures.items
    (c.in_ok-own.ensures (c.add_segment-in-None.ensures.goes_on.honest honest) now found) found (λ base same ready. done honest now base same ready))
    c.add_segment-in-None.ensures.done

pub returns-clause-any_moment : goal.returns-clause-any_moment
returns-clause-any_moment g c honest now found =
    added_new c.args.folder.now now c.args.manifest c.new.result.items (stop_given c.args.stop) c.in_ok-own.own c.args.documents.now (g.F.Files.view c.args.files.now).slots
    (λ (after : Archive). LeavesOnly (IsLeftArchive c.args.folder.now (Some after ∷ now ∷ [])) (g.F.Files.view c.args.files.now) (g.F.Files.view c.add_segment-in-None.new.files)) c.in-None.is c.new.ensures.items
    (c.in_ok-own.ensures (c.add_segment-in-None.ensures.goes_on.honest honest) now found) found (λ base same ready. c.add_segment-in-None.ensures.any_moment honest now base same ready)

pub returns-in_err-own-clause-changes : goal.returns-in_err-own-clause-changes
returns-in_err-own-clause-changes g c = none_in c.args.folder.now _ (g.met.F.Files.only_now c.args.files.now)

pub returns-then-is_empty-clause-changes : goal.returns-then-is_empty-clause-changes
returns-then-is_empty-clause-changes g c = none_in c.args.folder.now _ (g.met.F.Files.only_now c.args.files.now)
