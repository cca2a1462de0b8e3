use Rattle.ix_file.specs.Sections.{FrontCoded}
use Rattle.ix_live.proofs.volumes.open_volume.Goals as goal

pub returns-in-Ok : goal.returns-in-Ok
returns-in-Ok c = λ collection is. c.in-Ok.ensures.exact FrontCoded collection is
