-- What was read of the stop file is the stop list of the whole file.
use Rattle.ix_command.proofs.FileLemmas.{stop_held, stop_refused}
use Rattle.ix_command.proofs.commands.ask.read_stop_list.Goals as goal

pub returns-in_ok-bytes-in-Some-clause-held : goal.returns-in_ok-bytes-in-Some-clause-held
returns-in_ok-bytes-in-Some-clause-held g c =
    stop_held _ _ c.in-Some.path _ c.stop_list_of.result c.in-Some.is c.in_ok-bytes-in-Some.ensures.front (rw c.deref.ensures.value at c.stop_list_of.ensures.read)

pub returns-in_ok-bytes-in-Some-clause-refused : goal.returns-in_ok-bytes-in-Some-clause-refused
returns-in_ok-bytes-in-Some-clause-refused g c =
    stop_refused _ _ c.in-Some.path _ c.stop_list_of.result c.in-Some.is c.in_ok-bytes-in-Some.ensures.front (rw c.deref.ensures.value at c.stop_list_of.ensures.refused)
