use Rattle.ix_files.proofs.Drafting.{changed_again}
use Rattle.ix_archive_writer.proofs.removals.write_text.Goals as goal

pub returns-then-is_err-clause-changes : goal.returns-then-is_err-clause-changes
returns-then-is_err-clause-changes g c = changed_again c.begin_file.ensures.changes c.drop_file.ensures.changes c.drop_file.ensures.goes_on.honest

pub returns-in_err-end_file-clause-changes : goal.returns-in_err-end_file-clause-changes
returns-in_err-end_file-clause-changes g c = changed_again c.begin_file.ensures.changes c.end_file.ensures.changes c.end_file.ensures.goes_on.honest

pub returns-clause-changes : goal.returns-clause-changes
returns-clause-changes g c = changed_again c.begin_file.ensures.changes c.end_file.ensures.changes c.end_file.ensures.goes_on.honest
