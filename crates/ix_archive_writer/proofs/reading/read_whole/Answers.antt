use Rattle.ix_archive_writer.proofs.ReadingLemmas.{read_there}
use Rattle.ix_archive_writer.proofs.reading.read_whole.Goals as goal

pub returns-clause-whole : goal.returns-clause-whole
returns-clause-whole g c honest =
    read_there _ _ c.in_ok-source.field-0 c.in-Some.source _ _ c.in_ok-size.size c.in-Some.is (c.in_ok-source.ensures.found honest) c.new-bytes.ensures.items c.in_ok-size.ensures.told c.in_ok-append_at.ensures.told
