use Rattle.std.proofs.Common.{List, refl, subst, sym}
use Rattle.std.specs.Prelude.{String, map, option_map, string_bytes}
use Rattle.ix_folder.proofs.Laws.{narrowed}
use Rattle.ix_manifest.specs.ManifestText.{view_of}
use Rattle.ix_archive_writer.specs.Commits.{AreAllNames}
use Rattle.ix_archive_writer.proofs.OpeningLemmas.{at_but_lock, but_lock, cleared, clearing, opened_leaves, settling_leaves}
use Rattle.ix_files.proofs.Drafting.{changed_again}
use Rattle.ix_folder.specs.FolderNames.{lock_place}
use Rattle.ix_archive_writer.proofs.FolderChanges.{one_in, strays_in}
use Rattle.ix_archive_writer.proofs.opening.open.Goals as goal

pub returns-in_err-lock-clause-any_moment : goal.returns-in_err-lock-clause-any_moment
returns-in_err-lock-clause-any_moment g c honest among now named leaves at =
    narrowed (λ left old. but_lock c.args.folder.now among _ left leaves old) (c.lock.ensures.changes.any_moment honest)

pub returns-in_err-manifest-clause-any_moment : goal.returns-in_err-manifest-clause-any_moment
returns-in_err-manifest-clause-any_moment g c honest among now named leaves at =
    let locked = c.settle_and_read.ensures.goes_on.honest honest in
    settling_leaves c.args.folder.now among leaves (c.lock.ensures.changes.any_moment locked) (λ place off. c.lock.ensures.changes.others locked place off) (c.settle_and_read.ensures.any_moment honest)

pub returns-in_err-kept-clause-any_moment : goal.returns-in_err-kept-clause-any_moment
returns-in_err-kept-clause-any_moment g c honest among now named leaves at =
    let locked = c.settle_and_read.ensures.goes_on.honest honest in
    settling_leaves c.args.folder.now among leaves (c.lock.ensures.changes.any_moment locked) (λ place off. c.lock.ensures.changes.others locked place off) (c.settle_and_read.ensures.any_moment honest)

pub returns-in-Ok-clause-any_moment : goal.returns-in-Ok-clause-any_moment
returns-in-Ok-clause-any_moment g c honest among now named leaves at =
    let settled = c.sweep.ensures.goes_on.honest honest in
    let locked = c.settle_and_read.ensures.goes_on.honest settled in
    let found = c.in_ok-manifest.ensures.found settled now (at_but_lock c.args.folder.now now _ _ (λ place off. c.lock.ensures.changes.others locked place off) at) in
    opened_leaves c.args.folder.now among now named leaves (c.lock.ensures.changes.any_moment locked) (λ place off. c.lock.ensures.changes.others locked place off) (c.settle_and_read.ensures.any_moment settled)
    (clearing c.args.folder.now _ c.sweep.ensures.changes honest now (option_map view_of c.in_ok-manifest.manifest)
    (subst (λ (names : List (String _)). AreAllNames (option_map view_of c.in_ok-manifest.manifest) (map string_bytes names)) (sym c.as_slice.ensures.value) c.in_ok-kept.ensures) found)

pub returns-in-Err-clause-any_moment : goal.returns-in-Err-clause-any_moment
returns-in-Err-clause-any_moment g c honest among now named leaves at =
    let settled = c.sweep.ensures.goes_on.honest honest in
    let locked = c.settle_and_read.ensures.goes_on.honest settled in
    let found = c.in_ok-manifest.ensures.found settled now (at_but_lock c.args.folder.now now _ _ (λ place off. c.lock.ensures.changes.others locked place off) at) in
    opened_leaves c.args.folder.now among now named leaves (c.lock.ensures.changes.any_moment locked) (λ place off. c.lock.ensures.changes.others locked place off) (c.settle_and_read.ensures.any_moment settled)
    (clearing c.args.folder.now _ c.sweep.ensures.changes honest now (option_map view_of c.in_ok-manifest.manifest)
    (subst (λ (names : List (String _)). AreAllNames (option_map view_of c.in_ok-manifest.manifest) (map string_bytes names)) (sym c.as_slice.ensures.value) c.in_ok-kept.ensures) found)

pub returns-in-Ok-clause-found : goal.returns-in-Ok-clause-found
returns-in-Ok-clause-found g c honest now at =
    let settled = c.sweep.ensures.goes_on.honest honest in
    let locked = c.settle_and_read.ensures.goes_on.honest settled in
    let found = c.in_ok-manifest.ensures.found settled now (at_but_lock c.args.folder.now now _ _ (λ place off. c.lock.ensures.changes.others locked place off) at) in
    cleared c.args.folder.now _ c.sweep.ensures.changes honest now (option_map view_of c.in_ok-manifest.manifest)
    (subst (λ (names : List (String _)). AreAllNames (option_map view_of c.in_ok-manifest.manifest) (map string_bytes names)) (sym c.as_slice.ensures.value) c.in_ok-kept.ensures) found

pub returns-in_err-lock-clause-changes : goal.returns-in_err-lock-clause-changes
returns-in_err-lock-clause-changes g c = one_in c.args.folder.now (lock_place c.args.folder.now) refl c.lock.ensures.changes

pub returns-in_err-manifest-clause-changes : goal.returns-in_err-manifest-clause-changes
returns-in_err-manifest-clause-changes g c = changed_again (one_in c.args.folder.now (lock_place c.args.folder.now) refl c.lock.ensures.changes) c.settle_and_read.ensures.changes c.settle_and_read.ensures.goes_on.honest

pub returns-in_err-kept-clause-changes : goal.returns-in_err-kept-clause-changes
returns-in_err-kept-clause-changes g c = changed_again (one_in c.args.folder.now (lock_place c.args.folder.now) refl c.lock.ensures.changes) c.settle_and_read.ensures.changes c.settle_and_read.ensures.goes_on.honest

pub returns-in-Ok-clause-changes : goal.returns-in-Ok-clause-changes
returns-in-Ok-clause-changes g c =
    changed_again (changed_again (one_in c.args.folder.now (lock_place c.args.folder.now) refl c.lock.ensures.changes) c.settle_and_read.ensures.changes c.settle_and_read.ensures.goes_on.honest)
    (strays_in c.args.folder.now _ c.sweep.ensures.changes) c.sweep.ensures.goes_on.honest

pub returns-in-Err-clause-changes : goal.returns-in-Err-clause-changes
returns-in-Err-clause-changes g c =
    changed_again (changed_again (one_in c.args.folder.now (lock_place c.args.folder.now) refl c.lock.ensures.changes) c.settle_and_read.ensures.changes c.settle_and_read.ensures.goes_on.honest)
    (strays_in c.args.folder.now _ c.sweep.ensures.changes) c.sweep.ensures.goes_on.honest
