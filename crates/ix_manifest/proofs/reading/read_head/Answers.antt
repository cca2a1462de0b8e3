-- The head begins with its first line.
use Rattle.ix_manifest.proofs.reading.read_head.Goals as goal

pub returns-in_default : goal.returns-in_default
returns-in_default c = λ next rest fits is. c.in_default.ensures _ is
