-- What is so of a file or of an archive is so of what the line names.
use Rattle.std.proofs.Common.{inl}
use Rattle.ix_files.specs.Reading.{held_in}
use Rattle.ix_command.proofs.Doing.{err_first, err_second, keeps_itself, ok_first, ok_second}
use Rattle.ix_command.proofs.FileLemmas.{handed_up}
use Rattle.ix_command.proofs.TrustedLemmas.{unread_at_all}
use Rattle.ix_command.proofs.commands.search.run.Goals as goal

pub returns-in_err-is_archive-clause-refused : goal.returns-in_err-is_archive-clause-refused
returns-in_err-is_archive-clause-refused g c =
    handed_up _ c.from_residual.result c.in_err-is_archive.field-0.0 c.from_residual.ensures.1
    (inl (unread_at_all c.args.trust (held_in (g.F.Files.view c.args.files.now)) c.args.index.now c.args.query.now _ _ c.in_err-is_archive.field-0.0 c.in_err-is_archive.ensures.refused (keeps_itself _)))

pub returns-then-is_archive-clause-answered : goal.returns-then-is_archive-clause-answered
returns-then-is_archive-clause-answered g c = ok_second _ _ c.search_archive.result c.search_archive.ensures.answered

pub returns-then-is_archive-clause-refused : goal.returns-then-is_archive-clause-refused
returns-then-is_archive-clause-refused g c = err_second _ _ c.search_archive.result c.search_archive.ensures.refused

pub returns-clause-answered : goal.returns-clause-answered
returns-clause-answered g c = ok_first _ _ c.search_file.result c.search_file.ensures.answered

pub returns-clause-refused : goal.returns-clause-refused
returns-clause-refused g c = err_first _ _ c.search_file.result c.search_file.ensures.refused
