use Rattle.std.proofs.Common.{inl, ⊎_elim, arith, rules}
use Rattle.std.proofs.lemmas.Grind.{common_steps}
use Rattle.ix_files.specs.Locations.{place_of}
use Rattle.ix_files.proofs.Drafting.{unchanged}
use Rattle.ix_folder.proofs.Laws.{chained, narrowed}
use Rattle.ix_folder.proofs.Replacing.{after_names, before_rename, if_before, nothing_done, other_places, published, replaced_in, still_settled, prepared_in}
use Rattle.ix_folder.proofs.publishing.publish.Goals as goal

pub replace-requires : goal.replace-requires
replace-requires g c = first_of (
  search (rules, other_places c.args.folder.now (place_of c.in_ok-draft.draft) (place_of c.in_ok-manifest.manifest) c.in_ok-draft.ensures c.in_ok-manifest.ensures),
  grind (arith, common_steps, other_places c.args.folder.now (place_of c.in_ok-draft.draft) (place_of c.in_ok-manifest.manifest) c.in_ok-draft.ensures c.in_ok-manifest.ensures),
)

pub returns-in-Ok-clause-done : goal.returns-in-Ok-clause-done
returns-in-Ok-clause-done g c honest named names kept =
    let view = g.F.Files.view in
    published c.args.folder.now (place_of c.in_ok-draft.draft) c.in_ok-draft.ensures (place_of c.in_ok-manifest.manifest) c.in_ok-manifest.ensures c.args.text.now
    (view c.args.files.now).slots (view c.prepare.new.files).slots (c.in_ok-prepare.ensures.prepared (c.replace.ensures.goes_on.honest honest))
    named (view c.replace.new.files).slots names kept (c.in-Ok.ensures.replaced honest)

pub returns-in_err-prepare-clause-before : goal.returns-in_err-prepare-clause-before
returns-in_err-prepare-clause-before g c = if_before c.from_residual-in_err-prepare.result
    (λ honest now names settled. still_settled c.args.folder.now (place_of c.in_ok-draft.draft) c.in_ok-draft.ensures now
    (g.F.Files.view c.args.files.now).slots (g.F.Files.view c.prepare.new.files).slots names (c.prepare.ensures.rests honest) settled)

pub returns-in_err-draft-clause-any_moment : goal.returns-in_err-draft-clause-any_moment
returns-in_err-draft-clause-any_moment g c honest now names settled named named_are kept =
    nothing_done c.args.folder.now now _ (g.F.Files.view c.args.files.now) (g.met.F.Files.only_now c.args.files.now) honest settled

pub returns-in_err-manifest-clause-any_moment : goal.returns-in_err-manifest-clause-any_moment
returns-in_err-manifest-clause-any_moment g c honest now names settled named named_are kept =
    nothing_done c.args.folder.now now _ (g.F.Files.view c.args.files.now) (g.met.F.Files.only_now c.args.files.now) honest settled

pub returns-in_err-prepare-clause-any_moment : goal.returns-in_err-prepare-clause-any_moment
returns-in_err-prepare-clause-any_moment g c honest now names settled named named_are kept =
    narrowed (λ left old. inl (before_rename c.args.folder.now (place_of c.in_ok-draft.draft) c.in_ok-draft.ensures now (g.F.Files.view c.args.files.now).slots left names settled old))
    (c.prepare.ensures.any_moment honest)

pub returns-in-Ok-clause-any_moment : goal.returns-in-Ok-clause-any_moment
returns-in-Ok-clause-any_moment g c honest now names settled named named_are kept =
    let view = g.F.Files.view in
    let prepared_honest = c.replace.ensures.goes_on.honest honest in
    let prepared = c.in_ok-prepare.ensures.prepared prepared_honest in
    narrowed (λ left either. ⊎_elim
    (λ old. inl (before_rename c.args.folder.now (place_of c.in_ok-draft.draft) c.in_ok-draft.ensures now (view c.args.files.now).slots left names settled old))
    (λ new. after_names c.args.folder.now (place_of c.in_ok-draft.draft) c.in_ok-draft.ensures (place_of c.in_ok-manifest.manifest) c.in_ok-manifest.ensures c.args.text.now
    (view c.args.files.now).slots (view c.prepare.new.files).slots prepared now names settled left new named named_are kept)
    either)
    (chained (c.prepare.ensures.any_moment prepared_honest) (c.replace.ensures.any_moment honest c.args.text.now prepared.written))

pub returns-clause-any_moment : goal.returns-clause-any_moment
returns-clause-any_moment g c honest now names settled named named_are kept =
    let view = g.F.Files.view in
    let prepared_honest = c.replace.ensures.goes_on.honest honest in
    let prepared = c.in_ok-prepare.ensures.prepared prepared_honest in
    narrowed (λ left either. ⊎_elim
    (λ old. inl (before_rename c.args.folder.now (place_of c.in_ok-draft.draft) c.in_ok-draft.ensures now (view c.args.files.now).slots left names settled old))
    (λ new. after_names c.args.folder.now (place_of c.in_ok-draft.draft) c.in_ok-draft.ensures (place_of c.in_ok-manifest.manifest) c.in_ok-manifest.ensures c.args.text.now
    (view c.args.files.now).slots (view c.prepare.new.files).slots prepared now names settled left new named named_are kept)
    either)
    (chained (c.prepare.ensures.any_moment prepared_honest) (c.replace.ensures.any_moment honest c.args.text.now prepared.written))

pub returns-in_err-draft-clause-changes : goal.returns-in_err-draft-clause-changes
returns-in_err-draft-clause-changes g c = unchanged _ _ (g.met.F.Files.only_now c.args.files.now)

pub returns-in_err-manifest-clause-changes : goal.returns-in_err-manifest-clause-changes
returns-in_err-manifest-clause-changes g c = unchanged _ _ (g.met.F.Files.only_now c.args.files.now)

pub returns-in_err-prepare-clause-changes : goal.returns-in_err-prepare-clause-changes
returns-in_err-prepare-clause-changes g c = prepared_in c.args.folder.now (place_of c.in_ok-draft.draft) c.in_ok-draft.ensures c.prepare.ensures.changes

pub returns-in-Ok-clause-changes : goal.returns-in-Ok-clause-changes
returns-in-Ok-clause-changes g c = replaced_in c.args.folder.now (place_of c.in_ok-draft.draft) c.in_ok-draft.ensures (place_of c.in_ok-manifest.manifest) c.in_ok-manifest.ensures
    c.prepare.ensures.changes c.replace.ensures.changes c.replace.ensures.goes_on.honest

pub returns-clause-changes : goal.returns-clause-changes
returns-clause-changes g c = replaced_in c.args.folder.now (place_of c.in_ok-draft.draft) c.in_ok-draft.ensures (place_of c.in_ok-manifest.manifest) c.in_ok-manifest.ensures
    c.prepare.ensures.changes c.replace.ensures.changes c.replace.ensures.goes_on.honest
