use Rattle.ix_scan.specs.ScansWithout.{of_documents}
use Rattle.ix_archive_writer.proofs.ReadingLemmas.{opened_there}
use Rattle.ix_archive_writer.proofs.documents.read_documents.Goals as goal

pub returns-in-Ok : goal.returns-in-Ok
returns-in-Ok g c honest stop documents text kept is =
    c.in-Ok.ensures.extracted is.version (of_documents stop documents)
    (record { bytes = text; known = opened_there _ _ c.in_ok-source.field-0 c.in-Some.source text c.in-Some.is (c.in_ok-source.ensures.found honest) kept; text = is.indexed })
