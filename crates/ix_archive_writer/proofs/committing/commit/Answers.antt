use Rattle.std.proofs.Common.{◌≡◌, ◌∙◌, refl}
use Rattle.std.specs.Prelude.{string_bytes}
use Rattle.std.proofs.lemmas.Result.{IfOk-at_ok}
use Rattle.ix_files.proofs.Drafting.{changed_again, went_on_again}
use Rattle.ix_folder.specs.PublishErrors.{IsBefore}
use Rattle.ix_folder.specs.declared.publish_error.PublishError.{PublishError}
use Rattle.ix_folder.specs.declared.publish_error.PublishError.TheVariants.{Memory, NotKept, Write}
use Rattle.ix_archive_writer.proofs.CommitLemmas.{commit_leaves, committed, dropped_leaves}
use Rattle.ix_archive_writer.proofs.Going.{then_leaves}
use Rattle.ix_archive_writer.proofs.Places.{file_names}
use Rattle.ix_archive_writer.proofs.FolderChanges.{one_in}
use Rattle.ix_archive_writer.proofs.committing.commit.Goals as goal

pub returns-in-Err-clause-any_moment : goal.returns-in-Err-clause-any_moment
returns-in-Err-clause-any_moment g c honest now after bytes spelled commits = dropped_leaves commits commits.settled c.drop_file.ensures.changes honest

pub returns-in-Ok-publish-clause-done : goal.returns-in-Ok-publish-clause-done
returns-in-Ok-publish-clause-done g c honest now after bytes spelled commits =
    committed commits c.as_bytes.result.now (c.as_bytes.ensures.value ∙ IfOk-at_ok (λ text. string_bytes text ≡ bytes) c.in-Ok.is spelled) _
    (c.in-Ok-publish.ensures.done honest _ (file_names c.args.folder.now commits.view commits.texts commits.removals_file) commits.kept)

pub returns-in-Ok-publish-clause-any_moment : goal.returns-in-Ok-publish-clause-any_moment
returns-in-Ok-publish-clause-any_moment g c honest now after bytes spelled commits =
    commit_leaves commits c.as_bytes.result.now (c.as_bytes.ensures.value ∙ IfOk-at_ok (λ text. string_bytes text ≡ bytes) c.in-Ok.is spelled)
    (c.publish.ensures.any_moment honest commits.standing commits.names commits.settled _ (file_names c.args.folder.now commits.view commits.texts commits.removals_file) commits.kept)

pub returns-in-NotKept-clause-any_moment : goal.returns-in-NotKept-clause-any_moment
returns-in-NotKept-clause-any_moment g c honest now after bytes spelled commits =
    commit_leaves commits c.as_bytes.result.now (c.as_bytes.ensures.value ∙ IfOk-at_ok (λ text. string_bytes text ≡ bytes) c.in-Ok.is spelled)
    (c.publish.ensures.any_moment honest commits.standing commits.names commits.settled _ (file_names c.args.folder.now commits.view commits.texts commits.removals_file) commits.kept)

-- the manifest before is in its place after any other error
before_unless : (error : PublishError) → (error ≡ NotKept → ⊥) → IsBefore error
before_unless Memory other = tt
before_unless Write other = tt
before_unless NotKept other = absurd (other refl)

pub returns-clause-any_moment : goal.returns-clause-any_moment
returns-clause-any_moment g c honest now after bytes spelled commits =
    let published = c.drop_file-in_default.ensures.goes_on.honest honest in
    then_leaves
    (commit_leaves commits c.as_bytes.result.now (c.as_bytes.ensures.value ∙ IfOk-at_ok (λ text. string_bytes text ≡ bytes) c.in-Ok.is spelled)
    (c.publish.ensures.any_moment published commits.standing commits.names commits.settled _ (file_names c.args.folder.now commits.view commits.texts commits.removals_file) commits.kept))
    (dropped_leaves commits (c.in-Err-publish.ensures.before (before_unless _ c.in_default.not-NotKept) published commits.standing commits.names commits.settled) c.drop_file-in_default.ensures.changes honest)

pub returns-clause-goes_on : goal.returns-clause-goes_on
returns-clause-goes_on g c = went_on_again c.publish.ensures.goes_on c.drop_file-in_default.ensures.goes_on

pub returns-in-Err-clause-changes : goal.returns-in-Err-clause-changes
returns-in-Err-clause-changes g c inside = one_in c.args.folder.now _ inside c.drop_file.ensures.changes

pub returns-clause-changes : goal.returns-clause-changes
returns-clause-changes g c inside = changed_again c.publish.ensures.changes (one_in c.args.folder.now _ inside c.drop_file-in_default.ensures.changes) c.drop_file-in_default.ensures.goes_on.honest
