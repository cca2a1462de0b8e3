use Rattle.ix_files.proofs.Drafting.{standing, unchanged, went_on}
use Rattle.ix_archive_writer.proofs.OpeningLemmas.{made_changes}
use Rattle.ix_archive_writer.proofs.new_documents.make_folder.Goals as goal

pub returns-in-Ok : goal.returns-in-Ok
returns-in-Ok g c = record { changes = unchanged _ _ (g.met.F.Files.only_now c.args.files.now); goes_on = standing _ }

pub returns-in-Err-clause-changes : goal.returns-in-Err-clause-changes
returns-in-Err-clause-changes g c = unchanged _ _ (g.met.F.Files.only_now c.args.files.now)

pub returns-in-Err-clause-goes_on : goal.returns-in-Err-clause-goes_on
returns-in-Err-clause-goes_on g c = standing _

pub returns-in_err-create_folder-clause-changes : goal.returns-in_err-create_folder-clause-changes
returns-in_err-create_folder-clause-changes g c = made_changes (g.met.F.Files.only_now c.args.files.now) c.create_folder.ensures.call

pub returns-in_err-create_folder-clause-goes_on : goal.returns-in_err-create_folder-clause-goes_on
returns-in_err-create_folder-clause-goes_on g c = went_on (standing _) c.create_folder.ensures.call

pub returns-clause-changes : goal.returns-clause-changes
returns-clause-changes g c = made_changes (g.met.F.Files.only_now c.args.files.now) c.create_folder.ensures.call

pub returns-clause-goes_on : goal.returns-clause-goes_on
returns-clause-goes_on g c = went_on (standing _) c.create_folder.ensures.call
