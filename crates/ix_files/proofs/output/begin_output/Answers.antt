-- Nothing changes but the drafts: what is asked changes nothing, and a device or a pipe has no file.
use Rattle.std.proofs.Common.{subst}
use Rattle.ix_files.specs.Outputs.{IsTargetOf}
use Rattle.ix_files.proofs.Drafting.{changed_if, overwrites_none, unchanged}
use Rattle.ix_files.proofs.output.begin_output.Goals as goal

pub returns-in_err-location-clause-changes : goal.returns-in_err-location-clause-changes
returns-in_err-location-clause-changes g c = unchanged _ _ (g.met.F.Files.only_now c.args.files.now)

pub returns-in_err-writer-in-None-clause-changes : goal.returns-in_err-writer-in-None-clause-changes
returns-in_err-writer-in-None-clause-changes g c =
    changed_if (unchanged _ _ (g.met.F.Files.only_now c.args.files.now)) c.open_stream.ensures.call
    (λ honest slots did place other. overwrites_none _ _ slots
    (subst (IsTargetOf (g.F.Files.view c.args.files.now) c.args.path.now) c.in-None.is (c.in_ok-location.ensures.target (c.open_stream.ensures.call.honest honest))) did place)

pub returns-in_ok-writer-in-None-clause-changes : goal.returns-in_ok-writer-in-None-clause-changes
returns-in_ok-writer-in-None-clause-changes g c =
    changed_if (unchanged _ _ (g.met.F.Files.only_now c.args.files.now)) c.open_stream.ensures.call
    (λ honest slots did place other. overwrites_none _ _ slots
    (subst (IsTargetOf (g.F.Files.view c.args.files.now) c.args.path.now) c.in-None.is (c.in_ok-location.ensures.target (c.open_stream.ensures.call.honest honest))) did place)
