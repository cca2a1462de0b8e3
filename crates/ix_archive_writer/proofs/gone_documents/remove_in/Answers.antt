use Rattle.std.proofs.Common.{Some, inl, subst}
use Rattle.std.specs.Prelude.{Option, option_map}
use Rattle.std.proofs.lemmas.Result.{IfOk-weaker}
use Rattle.ix_files.proofs.Drafting.{changed_again}
use Rattle.ix_folder.proofs.Laws.{narrowed}
use Rattle.ix_manifest.specs.ManifestText.{view_of}
use Rattle.ix_archive_writer.specs.Commits.{IsFound}
use Rattle.ix_archive_writer.proofs.Going.{then_leaves}
use Rattle.ix_archive_writer.proofs.RemovingLemmas.{among_left}
use Rattle.ix_archive_writer.proofs.gone_documents.remove_in.Goals as goal

pub returns-in_err-lock-clause-any_moment : goal.returns-in_err-lock-clause-any_moment
returns-in_err-lock-clause-any_moment g c honest among archive named leaves at = narrowed (λ left is. inl is) (c.open.ensures.any_moment honest among (Some archive) named leaves at)

pub returns-in_default-clause-any_moment : goal.returns-in_default-clause-any_moment
returns-in_default-clause-any_moment g c honest among archive named leaves at = narrowed (λ left is. inl is) (c.open.ensures.any_moment honest among (Some archive) named leaves at)

pub returns-clause-done : goal.returns-clause-done
returns-clause-done g c = IfOk-weaker c.remove_from-result.result _ _ (λ count done honest archive at.
    let opened = c.remove_from-result.ensures.goes_on.honest honest in
    let view = g.F.Files.view in
    done honest archive (subst (λ (manifest : Option _). IsFound c.args.folder.now (Some archive) (option_map view_of manifest) (view c.open.new.files).slots) c.in-Some.is (c.in_ok-lock.ensures.found opened (Some archive) at)))
    c.remove_from-result.ensures.done

pub returns-clause-any_moment : goal.returns-clause-any_moment
returns-clause-any_moment g c honest among archive named leaves at =
    let opened = c.remove_from-result.ensures.goes_on.honest honest in
    let view = g.F.Files.view in
    then_leaves (narrowed (λ left is. inl is) (c.open.ensures.any_moment opened among (Some archive) named leaves at))
    (narrowed (among_left c.args.folder.now among _ archive named)
    (c.remove_from-result.ensures.any_moment honest archive
    (subst (λ (manifest : Option _). IsFound c.args.folder.now (Some archive) (option_map view_of manifest) (view c.open.new.files).slots) c.in-Some.is (c.in_ok-lock.ensures.found opened (Some archive) at))))

pub returns-clause-changes : goal.returns-clause-changes
returns-clause-changes g c = changed_again c.open.ensures.changes c.remove_from-result.ensures.changes c.remove_from-result.ensures.goes_on.honest
