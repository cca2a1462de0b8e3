-- The archive is without the names of the line.
use Rattle.std.specs.Prelude.{ℕ}
use Rattle.ix_line.specs.declared.removed.Removed.{Removed}
use Rattle.ix_command.specs.StoredArchives.{not_removed}
use Rattle.ix_command.proofs.ArchiveLemmas.{keeps_removed}
use Rattle.ix_command.proofs.commands.remove.remove_names.Goals as goal

pub returns-in-Ok-clause-removed : goal.returns-in-Ok-clause-removed
returns-in-Ok-clause-removed g c line named = record { texts = _; named = named; removed = c.in-Ok.ensures.done }

pub returns-in-Ok-clause-kept : goal.returns-in-Ok-clause-kept
returns-in-Ok-clause-kept g c honest line named = keeps_removed _ line _ _ _ _ named (c.remove.ensures.any_moment honest)

pub returns-in-Err-clause-kept : goal.returns-in-Err-clause-kept
returns-in-Err-clause-kept g c honest line named = keeps_removed _ line _ _ _ _ named (c.remove.ensures.any_moment honest)

pub returns-in-Err-clause-refused : goal.returns-in-Err-clause-refused
returns-in-Err-clause-refused g c line = not_removed c.in-Err.error c.of_change.ensures
