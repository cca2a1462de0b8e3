-- What was read is the front of the file.
use Rattle.ix_files.proofs.Fronts.{front_given}
use Rattle.ix_files.proofs.reading.read_front.Goals as goal

pub returns-clause-front : goal.returns-clause-front
returns-clause-front g c = front_given (λ bytes. bytes.items) _ _ _ _ c.read_up_to.result c.in_ok-reader.ensures.opened c.read_up_to.ensures.short c.read_up_to.ensures.front
