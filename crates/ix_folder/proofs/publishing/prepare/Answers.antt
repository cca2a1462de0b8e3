use Rattle.std.proofs.Common.{ap, ◌∙◌}
use Rattle.ix_files.specs.Locations.{place_of}
use Rattle.ix_files.specs.Slots.{Place, Slot, at_rest}
use Rattle.ix_files.proofs.Drafting.{changed}
use Rattle.ix_files.proofs.Moments.{settled_now}
use Rattle.ix_folder.proofs.Laws.{in_folder}
use Rattle.ix_folder.proofs.Preparing.{changed_rests, removed_rests, run_of, settled_rests, then_removed, then_settled}
use Rattle.ix_folder.proofs.publishing.prepare.Goals as goal

pub returns-in-Ok-clause-prepared : goal.returns-in-Ok-clause-prepared
returns-in-Ok-clause-prepared g c honest =
    let settles = c.in-Ok.ensures.settled honest in
    let written = c.sync_folder.ensures.call.honest honest in
    record {
      written = settled_now _ _ _ settles (place_of c.args.draft.now) ∙ c.in_ok-write_draft.ensures.written written;
      names = λ place inside other. settles.inside place (cc) ∙ ap (λ (slot : Slot). at_rest slot.now) (c.write_draft.ensures.changes.others written place other);
    }

pub returns-in_err-write_draft-clause-rests : goal.returns-in_err-write_draft-clause-rests
returns-in_err-write_draft-clause-rests g c honest = changed_rests _ _ _ c.write_draft.ensures.changes honest

pub returns-in-Ok-clause-rests : goal.returns-in-Ok-clause-rests
returns-in-Ok-clause-rests g c honest = settled_rests _ _ c.write_draft.ensures.changes c.sync_folder.ensures.call honest

pub returns-in-Err-clause-rests : goal.returns-in-Err-clause-rests
returns-in-Err-clause-rests g c honest =
    let remove = c.remove-removed.ensures.call in
    removed_rests _ (settled_rests _ _ c.write_draft.ensures.changes c.sync_folder.ensures.call (remove.honest honest)) remove honest

pub returns-in-Ok-clause-any_moment : goal.returns-in-Ok-clause-any_moment
returns-in-Ok-clause-any_moment g c honest =
    let settle = c.sync_folder.ensures.call in
    (then_settled (run_of _ _ _ c.write_draft.ensures.changes (settle.honest honest)) (settle.passes honest)).moments

pub returns-in-Err-clause-any_moment : goal.returns-in-Err-clause-any_moment
returns-in-Err-clause-any_moment g c honest =
    let settle = c.sync_folder.ensures.call in
    let remove = c.remove-removed.ensures.call in
    (then_removed (then_settled (run_of _ _ _ c.write_draft.ensures.changes (settle.honest (remove.honest honest))) (settle.passes (remove.honest honest))) (remove.passes honest)).moments

pub returns-in_err-write_draft-clause-changes : goal.returns-in_err-write_draft-clause-changes
returns-in_err-write_draft-clause-changes g c = in_folder _ c.write_draft.ensures.changes

pub returns-in-Ok-clause-changes : goal.returns-in-Ok-clause-changes
returns-in-Ok-clause-changes g c =
    changed (in_folder _ c.write_draft.ensures.changes) c.sync_folder.ensures.call (λ slots did place other. did.outside place (λ inside. other (cc)))

pub returns-in-Err-clause-changes : goal.returns-in-Err-clause-changes
returns-in-Err-clause-changes g c =
    changed (changed (in_folder _ c.write_draft.ensures.changes) c.sync_folder.ensures.call (λ slots did place other. did.outside place (λ inside. other (cc))))
    c.remove-removed.ensures.call (λ slots did place other. did.elsewhere place (λ same. other (ap (λ (p : Place). p.folder) same)))
