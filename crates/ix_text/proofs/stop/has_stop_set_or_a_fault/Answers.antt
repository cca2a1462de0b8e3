use Rattle.ix_text.proofs.StopTextLaws.{one_stop_set, one_fault, refused, complete}
use Rattle.ix_text.proofs.stop.has_stop_set_or_a_fault.Goals as goal

pub returns : goal.returns
returns c = record { one_set = one_stop_set; one_fault = one_fault; refused = refused; complete = complete }
