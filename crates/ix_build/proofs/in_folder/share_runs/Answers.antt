use Rattle.std.proofs.Common.{map, sym, subst}
use Rattle.ix_files.specs.Locations.{place_of}
use Rattle.ix_files.proofs.Drafting.{unchanged}
use Rattle.ix_build.specs.RunNames.{AreRunNamesOf}
use Rattle.ix_build.proofs.FolderLemmas.{shared_changes}
use Rattle.ix_build.proofs.in_folder.share_runs.Goals as goal

pub returns-in_err-names-clause-changes : goal.returns-in_err-names-clause-changes
returns-in_err-names-clause-changes g c = unchanged _ _ (g.met.F.Files.only_now c.args.files.now)

pub returns-in-Ok-clause-runs : goal.returns-in-Ok-clause-runs
returns-in-Ok-clause-runs g c = λ honest.
    subst (AreRunNamesOf c.args.plan.now c.args.collection.now (g.F.Files.view c.args.files.now)) (sym c.in-Ok.ensures.shared) (c.in_ok-names.ensures.runs (c.share.ensures.call.honest honest))

pub returns-in-Ok-clause-changes : goal.returns-in-Ok-clause-changes
returns-in-Ok-clause-changes g c =
    shared_changes c.args.plan.now c.args.collection.now _ _ (map place_of c.in_ok-names.names.items) c.in_ok-names.ensures.runs c.share.ensures.call (g.met.F.Files.only_now c.args.files.now)

pub returns-in-Err-clause-changes : goal.returns-in-Err-clause-changes
returns-in-Err-clause-changes g c =
    shared_changes c.args.plan.now c.args.collection.now _ _ (map place_of c.in_ok-names.names.items) c.in_ok-names.ensures.runs c.share.ensures.call (g.met.F.Files.only_now c.args.files.now)
