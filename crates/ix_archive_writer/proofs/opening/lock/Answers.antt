use Rattle.ix_files.proofs.Drafting.{standing, unchanged, went_on}
use Rattle.ix_archive_writer.proofs.OpeningLemmas.{lock_changes}
use Rattle.ix_archive_writer.proofs.opening.lock.Goals as goal

pub returns-in_err-at-clause-changes : goal.returns-in_err-at-clause-changes
returns-in_err-at-clause-changes g c = unchanged _ _ (g.met.F.Files.only_now c.args.files.now)

pub returns-in_err-at-clause-goes_on : goal.returns-in_err-at-clause-goes_on
returns-in_err-at-clause-goes_on g c = standing _

pub returns-in-Ok-clause-changes : goal.returns-in-Ok-clause-changes
returns-in-Ok-clause-changes g c = lock_changes c.args.folder.now _ c.in_ok-at.ensures (g.met.F.Files.only_now c.args.files.now) c.lock.ensures.call

pub returns-in-Err-Locked-clause-changes : goal.returns-in-Err-Locked-clause-changes
returns-in-Err-Locked-clause-changes g c = lock_changes c.args.folder.now _ c.in_ok-at.ensures (g.met.F.Files.only_now c.args.files.now) c.lock.ensures.call

pub returns-clause-changes : goal.returns-clause-changes
returns-clause-changes g c = lock_changes c.args.folder.now _ c.in_ok-at.ensures (g.met.F.Files.only_now c.args.files.now) c.lock.ensures.call

pub returns-clause-goes_on : goal.returns-clause-goes_on
returns-clause-goes_on g c = went_on (standing _) c.lock.ensures.call
