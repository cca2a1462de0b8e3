use Rattle.std.proofs.Common.{◌≡◌, ◌∙◌, List, Some, ℕ, inl, subst, sym}
use Rattle.std.proofs.lemmas.Result.{IfOk-weaker}
use Rattle.ix_files.specs.Views.{LeavesOnly}
use Rattle.ix_archive.specs.Folders.{IsArchiveAt}
use Rattle.ix_archive_writer.specs.Changes.{IsNewlyGone, texts_in}
use Rattle.ix_archive_writer.specs.Commits.{IsLeftOrWithout, LeavesAmong, LeavesWithout}
use Rattle.ix_archive_writer.proofs.FolderChanges.{none_in, same_folder}
use Rattle.ix_archive_writer.proofs.OpeningLemmas.{nothing_left}
use Rattle.ix_archive_writer.proofs.gone_documents.remove.Goals as goal

pub returns-in-Err-clause-any_moment : goal.returns-in-Err-clause-any_moment
returns-in-Err-clause-any_moment g c honest among archive named leaves at =
    nothing_left _ (g.met.F.Files.only_now c.args.files.now)
    (λ left stops. let found = leaves left stops in inl (record { archive = found.0; named = found.1; there = found.2 }))

pub returns-clause-done : goal.returns-clause-done
returns-clause-done g c = IfOk-weaker c.remove_in.result _ _ (λ count done honest archive at.
    let folder = (g.F.Files.view c.args.files.now).folder c.args.path.now in
    let same : c.as_str.result.now ≡ folder = c.as_str.ensures.value ∙ c.in-Ok.ensures.located (c.remove_in.ensures.goes_on.honest honest) in
    subst (λ (f : List ℕ). IsNewlyGone (texts_in c.args.names.now) archive count × LeavesWithout f (texts_in c.args.names.now) archive (g.F.Files.view c.remove_in.new.files).slots) same
    (done honest archive (subst (λ (f : List ℕ). IsArchiveAt f (Some archive) (g.F.Files.view c.args.files.now).slots) (sym same) at)))
    c.remove_in.ensures.done

pub returns-clause-any_moment : goal.returns-clause-any_moment
returns-clause-any_moment g c honest among archive named leaves at =
    let folder = (g.F.Files.view c.args.files.now).folder c.args.path.now in
    let same : c.as_str.result.now ≡ folder = c.as_str.ensures.value ∙ c.in-Ok.ensures.located (c.remove_in.ensures.goes_on.honest honest) in
    subst (λ (f : List ℕ). LeavesOnly (IsLeftOrWithout f among (texts_in c.args.names.now) archive) (g.F.Files.view c.args.files.now) (g.F.Files.view c.remove_in.new.files)) same
    (c.remove_in.ensures.any_moment honest among archive named
    (subst (λ (f : List ℕ). LeavesAmong f among (g.F.Files.view c.args.files.now).slots) (sym same) leaves)
    (subst (λ (f : List ℕ). IsArchiveAt f (Some archive) (g.F.Files.view c.args.files.now).slots) (sym same) at))

pub returns-in-Err-clause-changes : goal.returns-in-Err-clause-changes
returns-in-Err-clause-changes g c = none_in ((g.F.Files.view c.args.files.now).folder c.args.path.now) _ (g.met.F.Files.only_now c.args.files.now)

pub returns-clause-changes : goal.returns-clause-changes
returns-clause-changes g c = same_folder c.as_str.result.now _ (λ honest. c.as_str.ensures.value ∙ c.in-Ok.ensures.located (c.remove_in.ensures.goes_on.honest honest)) c.remove_in.ensures.changes
