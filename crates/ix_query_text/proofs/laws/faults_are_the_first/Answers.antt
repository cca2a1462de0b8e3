use Rattle.ix_query_text.proofs.Faults.{fault_sound, fault_complete}
use Rattle.ix_query_text.proofs.laws.faults_are_the_first.Goals as goal

pub returns : goal.returns
returns c = record { first = fault_sound; only = fault_complete }
