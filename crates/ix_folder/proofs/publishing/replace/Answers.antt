use Rattle.std.proofs.Common.{inl, inr, ap, ◌∙◌}
use Rattle.ix_files.specs.Slots.{Place, Slot, at_rest}
use Rattle.ix_files.proofs.Drafting.{changed, unchanged}
use Rattle.ix_files.proofs.Finishing.{after_folder, after_rename}
use Rattle.ix_folder.proofs.Preparing.{beginning}
use Rattle.ix_folder.proofs.publishing.replace.Goals as goal

pub returns-clause-replaced : goal.returns-clause-replaced
returns-clause-replaced g c honest =
    let settles = c.in_ok-sync_folder.ensures.settled honest in
    let renames = c.in_ok-rename.ensures.renamed (c.sync_folder.ensures.call.honest honest) in
    record {
      there = settles.inside _ (cc) ∙ ap (λ (slot : Slot). at_rest slot.now) renames.there;
      names = λ place inside off other. settles.inside place (cc) ∙ ap (λ (slot : Slot). at_rest slot.now) (renames.elsewhere place off other);
    }

pub returns-clause-any_moment : goal.returns-clause-any_moment
returns-clause-any_moment g c honest text is_kept =
    let settle = c.sync_folder.ensures.call in
    let rename = c.rename.ensures.call in
    (after_folder (after_rename (beginning _ _ text (g.met.F.Files.only_now c.args.files.now)) is_kept (rename.passes (settle.honest honest))) (settle.passes honest)).moments

pub returns-in_err-sync_folder-clause-any_moment : goal.returns-in_err-sync_folder-clause-any_moment
returns-in_err-sync_folder-clause-any_moment g c honest text is_kept =
    let settle = c.sync_folder.ensures.call in
    let rename = c.rename.ensures.call in
    (after_folder (after_rename (beginning _ _ text (g.met.F.Files.only_now c.args.files.now)) is_kept (rename.passes (settle.honest honest))) (settle.passes honest)).moments

pub returns-in_err-rename-clause-any_moment : goal.returns-in_err-rename-clause-any_moment
returns-in_err-rename-clause-any_moment g c honest text is_kept =
    (after_rename (beginning _ _ text (g.met.F.Files.only_now c.args.files.now)) is_kept (c.rename.ensures.call.passes honest)).moments

pub returns-in_err-rename-clause-changes : goal.returns-in_err-rename-clause-changes
returns-in_err-rename-clause-changes g c = changed (unchanged _ _ (g.met.F.Files.only_now c.args.files.now)) c.rename.ensures.call
    (λ slots did place other. did.elsewhere place (λ same. other (inl (ap (λ (p : Place). p.folder) same))) (λ same. other (inr (ap (λ (p : Place). p.folder) same))))

pub returns-in_err-sync_folder-clause-changes : goal.returns-in_err-sync_folder-clause-changes
returns-in_err-sync_folder-clause-changes g c =
    changed (changed (unchanged _ _ (g.met.F.Files.only_now c.args.files.now)) c.rename.ensures.call
    (λ slots did place other. did.elsewhere place (λ same. other (inl (ap (λ (p : Place). p.folder) same))) (λ same. other (inr (ap (λ (p : Place). p.folder) same)))))
    c.sync_folder.ensures.call (λ slots did place other. did.outside place (λ inside. other (inr (cc))))

pub returns-clause-changes : goal.returns-clause-changes
returns-clause-changes g c =
    changed (changed (unchanged _ _ (g.met.F.Files.only_now c.args.files.now)) c.rename.ensures.call
    (λ slots did place other. did.elsewhere place (λ same. other (inl (ap (λ (p : Place). p.folder) same))) (λ same. other (inr (ap (λ (p : Place). p.folder) same)))))
    c.sync_folder.ensures.call (λ slots did place other. did.outside place (λ inside. other (inr (cc))))
