use Rattle.ix_files.proofs.Drafting.{changed_again, went_on_again}
use Rattle.ix_archive_writer.proofs.writing.end_segment.Goals as goal

pub returns-in-Err-clause-changes : goal.returns-in-Err-clause-changes
returns-in-Err-clause-changes g c = changed_again c.keep_segment.ensures.changes c.drop_file.ensures.changes c.drop_file.ensures.goes_on.honest

pub returns-in-Err-clause-goes_on : goal.returns-in-Err-clause-goes_on
returns-in-Err-clause-goes_on g c = went_on_again c.keep_segment.ensures.goes_on c.drop_file.ensures.goes_on
