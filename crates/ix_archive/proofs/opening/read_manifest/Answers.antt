use Rattle.ix_archive.proofs.OpenLemmas.{opened_text}
use Rattle.ix_archive.proofs.opening.read_manifest.Goals as goal

pub returns-in-Some-clause-read : goal.returns-in-Some-clause-read
returns-in-Some-clause-read g c = λ text is.
    c.in_ok-read_whole-in-Some.ensures.read text
    (opened_text _ _ _ text c.in_ok-source.field-0 c.in-Some.source _ c.in_ok-at.ensures c.in-Some.is c.in_ok-source.ensures.found is)
