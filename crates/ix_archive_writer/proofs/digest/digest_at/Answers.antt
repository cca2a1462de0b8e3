use Rattle.ix_archive_writer.proofs.ReadingLemmas.{opened_there}
use Rattle.ix_archive_writer.proofs.digest.digest_at.Goals as goal

pub returns-clause-told : goal.returns-clause-told
returns-clause-told g c honest text kept = c.in_ok-digested.ensures.told text (opened_there _ _ c.in_ok-source.field-0 c.in-Some.source text c.in-Some.is (c.in_ok-source.ensures.found honest) kept)
