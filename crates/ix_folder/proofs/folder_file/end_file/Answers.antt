use Rattle.std.proofs.Common.{inl, inr, ⊎_elim, arith}
use Rattle.ix_files.proofs.Drafting.{changed, changed_again, standing, unchanged, went_on, went_on_again}
use Rattle.ix_files.proofs.Finishing.{synced_now}
use Rattle.ix_folder.proofs.folder_file.end_file.Goals as goal

pub returns-in-Ok-clause-done : goal.returns-in-Ok-clause-done
returns-in-Ok-clause-done g c honest text known = synced_now text _ _ known (c.in-Ok.ensures.synced honest)

pub returns-in-Ok-clause-changes : goal.returns-in-Ok-clause-changes
returns-in-Ok-clause-changes g c = changed (unchanged _ _ (g.met.F.Files.only_now c.args.files.now)) c.sync.ensures.call (λ slots did place other. did.elsewhere place other)

pub returns-in-Err-clause-changes : goal.returns-in-Err-clause-changes
returns-in-Err-clause-changes g c =
    changed_again (changed (unchanged _ _ (g.met.F.Files.only_now c.args.files.now)) c.sync.ensures.call (λ slots did place other. did.elsewhere place other))
    c.drop_file.ensures.changes c.drop_file.ensures.goes_on.honest

pub returns-in-Err-clause-goes_on : goal.returns-in-Err-clause-goes_on
returns-in-Err-clause-goes_on g c = went_on_again (went_on (standing _) c.sync.ensures.call) c.drop_file.ensures.goes_on

pub returns-in-Err-clause-undone : goal.returns-in-Err-clause-undone
returns-in-Err-clause-undone g c honest = ⊎_elim inl
    (λ failed. inr (omega (arith, failed, c.in-Err.ensures.cause (c.drop_file.ensures.goes_on.honest honest))))
    (c.drop_file.ensures.gone honest)
