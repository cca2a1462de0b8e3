use Rattle.ix_live.proofs.StateLemmas.{one_state_scan, whole_state_scan}
use Rattle.ix_live.proofs.laws.a_state_has_one_scan.Goals as goal

pub returns-clause-one : goal.returns-clause-one
returns-clause-one c = one_state_scan

pub returns-clause-whole : goal.returns-clause-whole
returns-clause-whole c = whole_state_scan
