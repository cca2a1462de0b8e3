use Rattle.ix_files.proofs.Drafting.{changed, unchanged}
use Rattle.ix_files.proofs.Gone.{removed_or_failed}
use Rattle.ix_folder.proofs.folder_file.drop_file.Goals as goal

pub returns-clause-gone : goal.returns-clause-gone
returns-clause-gone g c = removed_or_failed _ _ _ c.remove-removed.result c.remove-removed.ensures.cause c.remove-removed.ensures.removed c.remove-removed.ensures.call

pub returns-clause-changes : goal.returns-clause-changes
returns-clause-changes g c = changed (unchanged _ _ (g.met.F.Files.only_now c.args.files.now)) c.remove-removed.ensures.call (λ slots did place other. did.elsewhere place other)
