use Rattle.std.proofs.Common.{◌≡◌, ◌∙◌, List, Some, ℕ, ap, length, sym}
use Rattle.std.proofs.lemmas.Result.{on_ok_weaker}
use Rattle.sha2.specs.Sha256.{sha256}
use Rattle.ix_files.specs.Locations.{place_of}
use Rattle.ix_files.specs.Slots.{Place}
use Rattle.ix_files.proofs.Drafting.{changed_again, went_on_again}
use Rattle.ix_manifest.specs.ManifestText.{manifest_text, view_of}
use Rattle.ix_archive_writer.specs.Changes.{with_removals, with_removed}
use Rattle.ix_archive_writer.proofs.CommitLemmas.{ready_found, ready_leaves, removals_commits, removals_leaves}
use Rattle.ix_archive_writer.proofs.FolderChanges.{none_in, one_in}
use Rattle.ix_archive_writer.proofs.Going.{then_leaves}
use Rattle.ix_archive_writer.proofs.RemovalLemmas.{removals_file_of}
use Rattle.ix_archive_writer.proofs.removals.put_removals.Goals as goal

pub returns-in_err-at-clause-any_moment : goal.returns-in_err-at-clause-any_moment
returns-in_err-at-clause-any_moment g c honest archive taken found exact = ready_leaves _ (ready_found found) (g.met.F.Files.only_now c.args.files.now)

pub returns-in_err-text-clause-any_moment : goal.returns-in_err-text-clause-any_moment
returns-in_err-text-clause-any_moment g c honest archive taken found exact = ready_leaves _ (ready_found found) (g.met.F.Files.only_now c.args.files.now)

pub returns-in_err-write_text-clause-any_moment : goal.returns-in_err-write_text-clause-any_moment
returns-in_err-write_text-clause-any_moment g c honest archive taken found exact = removals_leaves found (place_of c.in_ok-at.at) c.in_ok-at.ensures c.write_text.ensures.changes honest _

pub returns-clause-done : goal.returns-clause-done
returns-clause-done g c = on_ok_weaker c.commit.result
    (λ done honest archive taken found exact.
    let written = c.commit.ensures.goes_on.honest honest in
    let line = c.line_of-line.result in
    let text = c.as_bytes.result.now in
    let again : c.as_bytes-2.result.now ≡ text = c.as_bytes-2.ensures.value ∙ sym c.as_bytes.ensures.value in
    done honest (Some archive) (with_removed archive c.args.removals.now) (manifest_text (with_removals (view_of c.args.manifest) line)) c.text_with_removals-text.ensures
    (removals_commits found (place_of c.in_ok-at.at) c.in_ok-at.ensures c.write_text.ensures.changes written c.args.removals.now line text c.requires c.line_of-line.ensures.numbered c.line_of-line.ensures.fit
    (removals_file_of archive c.args.manifest.removals found.removals_file taken c.args.removals.now line text found.laid.removals exact c.in_ok-text.ensures.lawful (c.as_bytes.ensures.value ∙ c.in_ok-text.ensures.text)
    (c.line_of-line.ensures.counted ∙ c.len.ensures.count) (c.line_of-line.ensures.sized ∙ ap (λ (l : List ℕ). length l) again) (c.line_of-line.ensures.digested ∙ ap sha256 again))
    (c.in_ok-write_text.ensures.kept written)))
    c.commit.ensures.done

pub returns-clause-any_moment : goal.returns-clause-any_moment
returns-clause-any_moment g c honest archive taken found exact =
    let written = c.commit.ensures.goes_on.honest honest in
    let line = c.line_of-line.result in
    let text = c.as_bytes.result.now in
    let again : c.as_bytes-2.result.now ≡ text = c.as_bytes-2.ensures.value ∙ sym c.as_bytes.ensures.value in
    then_leaves (removals_leaves found (place_of c.in_ok-at.at) c.in_ok-at.ensures c.write_text.ensures.changes written _)
    (c.commit.ensures.any_moment honest (Some archive) (with_removed archive c.args.removals.now) (manifest_text (with_removals (view_of c.args.manifest) line)) c.text_with_removals-text.ensures
    (removals_commits found (place_of c.in_ok-at.at) c.in_ok-at.ensures c.write_text.ensures.changes written c.args.removals.now line text c.requires c.line_of-line.ensures.numbered c.line_of-line.ensures.fit
    (removals_file_of archive c.args.manifest.removals found.removals_file taken c.args.removals.now line text found.laid.removals exact c.in_ok-text.ensures.lawful (c.as_bytes.ensures.value ∙ c.in_ok-text.ensures.text)
    (c.line_of-line.ensures.counted ∙ c.len.ensures.count) (c.line_of-line.ensures.sized ∙ ap (λ (l : List ℕ). length l) again) (c.line_of-line.ensures.digested ∙ ap sha256 again))
    (c.in_ok-write_text.ensures.kept written)))

pub returns-in_err-at-clause-changes : goal.returns-in_err-at-clause-changes
returns-in_err-at-clause-changes g c = none_in c.args.folder.now _ (g.met.F.Files.only_now c.args.files.now)

pub returns-in_err-text-clause-changes : goal.returns-in_err-text-clause-changes
returns-in_err-text-clause-changes g c = none_in c.args.folder.now _ (g.met.F.Files.only_now c.args.files.now)

pub returns-in_err-write_text-clause-changes : goal.returns-in_err-write_text-clause-changes
returns-in_err-write_text-clause-changes g c = one_in c.args.folder.now _ (ap (λ (place : Place). place.folder) c.in_ok-at.ensures) c.write_text.ensures.changes

pub returns-clause-changes : goal.returns-clause-changes
returns-clause-changes g c =
    changed_again (one_in c.args.folder.now _ (ap (λ (place : Place). place.folder) c.in_ok-at.ensures) c.write_text.ensures.changes) (c.commit.ensures.changes (ap (λ (place : Place). place.folder) c.in_ok-at.ensures)) c.commit.ensures.goes_on.honest

pub returns-clause-goes_on : goal.returns-clause-goes_on
returns-clause-goes_on g c = went_on_again c.write_text.ensures.goes_on c.commit.ensures.goes_on
