use Rattle.std.proofs.Common.{◌≡◌, ℕ, List, Some, inl, inr, ap, ◌∙◌}
use Rattle.ix_files.specs.Drafts.{IsUnfinished, own_of, target_of}
use Rattle.ix_files.specs.Slots.{Growing, at_rest}
use Rattle.ix_files.proofs.Finishing.{after_folder, after_remove, after_rename, after_sync, of_any, synced_now}
use Rattle.ix_files.proofs.Moments.{settled_now, stays}
use Rattle.ix_files.proofs.draft.finish.Goals as goal

pub returns-in-Err-clause-any_moment : goal.returns-in-Err-clause-any_moment
returns-in-Err-clause-any_moment g c honest text known =
    let remove = c.remove-removed.ensures.call in
    (after_remove (after_sync (g.met.F.Files.only_now c.args.files.now) (c.sync.ensures.call.passes (remove.honest honest))) (remove.passes honest)).moments

pub returns-in-Err-rename-clause-any_moment : goal.returns-in-Err-rename-clause-any_moment
returns-in-Err-rename-clause-any_moment g c honest text known =
    let remove = c.remove-removed-in-Err-rename.ensures.call in
    let rename = c.rename.ensures.call in
    let renamed = remove.honest honest in
    let synced = rename.honest renamed in
    let is_kept = synced_now text _ _ known (c.in-Ok.ensures.synced synced) in
    (after_remove (after_rename (after_sync (g.met.F.Files.only_now c.args.files.now) (c.sync.ensures.call.passes synced)) is_kept (rename.passes renamed)) (remove.passes honest)).moments

pub returns-in_err-sync_folder-clause-any_moment : goal.returns-in_err-sync_folder-clause-any_moment
returns-in_err-sync_folder-clause-any_moment g c honest text known =
    let settle = c.sync_folder.ensures.call in
    let rename = c.rename.ensures.call in
    let renamed = settle.honest honest in
    let synced = rename.honest renamed in
    let is_kept = synced_now text _ _ known (c.in-Ok.ensures.synced synced) in
    (after_folder (after_rename (after_sync (g.met.F.Files.only_now c.args.files.now) (c.sync.ensures.call.passes synced)) is_kept (rename.passes renamed)) (settle.passes honest)).moments

pub returns-clause-any_moment : goal.returns-clause-any_moment
returns-clause-any_moment g c honest text known =
    let settle = c.sync_folder.ensures.call in
    let rename = c.rename.ensures.call in
    let renamed = settle.honest honest in
    let synced = rename.honest renamed in
    let is_kept = synced_now text _ _ known (c.in-Ok.ensures.synced synced) in
    (after_folder (after_rename (after_sync (g.met.F.Files.only_now c.args.files.now) (c.sync.ensures.call.passes synced)) is_kept (rename.passes renamed)) (settle.passes honest)).moments

pub returns-in_err-sync_folder-clause-undone : goal.returns-in_err-sync_folder-clause-undone
returns-in_err-sync_folder-clause-undone g c = of_any {P = (g.F.Files.view c.sync_folder.new.self).honest
    → ((g.F.Files.view c.args.files.now).slots (own_of c.args.draft)).now ≡ Growing → (text : List ℕ) → g.F.Writer.Write.contents c.args.draft.writer ≡ Some text
    → IsUnfinished (target_of c.args.draft) (own_of c.args.draft) text (g.F.Files.view c.args.files.now) (g.F.Files.view c.sync_folder.new.self)}
    c.from_residual.result (λ honest growing text known.
    let settle = c.sync_folder.ensures.call in
    let renamed = settle.honest honest in
    let is_kept = synced_now text _ _ known (c.in-Ok.ensures.synced (c.rename.ensures.call.honest renamed)) in
    let renames = c.in_default.ensures.renamed renamed in
    record {
      there = inr (stays (settle.passes honest) (target_of c.args.draft) (λ did. settled_now _ _ _ did (target_of c.args.draft)) ∙ ap (λ slot. slot.now) renames.there ∙ is_kept);
      gone = inl (stays (settle.passes honest) (own_of c.args.draft) (λ did. settled_now _ _ _ did (own_of c.args.draft)) ∙ ap (λ slot. slot.now) renames.gone);
    })

pub returns-clause-done : goal.returns-clause-done
returns-clause-done g c honest text known =
    let settles = c.in_ok-sync_folder.ensures.settled honest in
    let renamed = c.sync_folder.ensures.call.honest honest in
    let is_kept = synced_now text _ _ known (c.in-Ok.ensures.synced (c.rename.ensures.call.honest renamed)) in
    let renames = c.in_default.ensures.renamed renamed in
    record {
      there = settles.inside (target_of c.args.draft) (cc) ∙ ap at_rest (ap (λ slot. slot.now) renames.there ∙ is_kept);
      gone = settled_now _ _ _ settles (own_of c.args.draft) ∙ ap (λ slot. slot.now) renames.gone;
    }

pub returns-in_err-sync_folder-clause-others : goal.returns-in_err-sync_folder-clause-others
returns-in_err-sync_folder-clause-others g c honest place off other =
    let settle = c.sync_folder.ensures.call in
    let rename = c.rename.ensures.call in
    let renamed = settle.honest honest in
    stays (settle.passes honest) place (λ did. settled_now _ _ _ did place)
    ∙ stays (rename.passes renamed) place (λ did. ap (λ slot. slot.now) (did.elsewhere place other off))
    ∙ stays (c.sync.ensures.call.passes (rename.honest renamed)) place (λ did. ap (λ slot. slot.now) (did.elsewhere place other))

pub returns-clause-others : goal.returns-clause-others
returns-clause-others g c honest place off other =
    let settle = c.sync_folder.ensures.call in
    let rename = c.rename.ensures.call in
    let renamed = settle.honest honest in
    stays (settle.passes honest) place (λ did. settled_now _ _ _ did place)
    ∙ stays (rename.passes renamed) place (λ did. ap (λ slot. slot.now) (did.elsewhere place other off))
    ∙ stays (c.sync.ensures.call.passes (rename.honest renamed)) place (λ did. ap (λ slot. slot.now) (did.elsewhere place other))
