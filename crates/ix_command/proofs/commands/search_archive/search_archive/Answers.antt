-- What was opened is the archive, and what a query finds in it is found in the archive.
use Rattle.ix_command.specs.StoredArchives.{cut_short, no_answer_of}
use Rattle.ix_command.proofs.ArchiveLemmas.{outside_refuses}
use Rattle.ix_command.proofs.Doing.{keeps_itself}
use Rattle.ix_command.proofs.FileLemmas.{handed_up}
use Rattle.ix_command.proofs.commands.search_archive.search_archive.Goals as goal

pub returns-in-Err-clause-refused : goal.returns-in-Err-clause-refused
returns-in-Err-clause-refused g c =
    no_answer_of c.in-Err.error c.requires c.of_reading.ensures (λ archive is. outside_refuses archive.stop c.args.query.now c.in-Err.error (c.in-Err.ensures.refused archive is)) (keeps_itself _)

pub returns-in_err-print_whole-in-Ok-find-clause-refused : goal.returns-in_err-print_whole-in-Ok-find-clause-refused
returns-in_err-print_whole-in-Ok-find-clause-refused g c =
    let unwritten = rw c.deref.ensures.value at c.in_err-print_whole-in-Ok-find.ensures.refused in
    handed_up _ c.from_residual.result c.in_err-print_whole-in-Ok-find.field-0.0 c.from_residual.ensures.1
    (cut_short c.in-Ok-find.names.bytes.items c.in-Ok-find.names.count c.requires (λ archive is. c.in-Ok-find.ensures.found archive (c.in-Ok.ensures.opened archive is)) unwritten)

pub returns-clause-refused : goal.returns-clause-refused
returns-clause-refused g c =
    no_answer_of c.in-Err-find.error c.requires c.of_reading-in-Err-find.ensures (λ archive is. c.in-Err-find.ensures.refused archive (c.in-Ok.ensures.opened archive is)) (keeps_itself _)
