use Rattle.ix_query.proofs.ScanLemmas.{one_scan}
use Rattle.ix_query.proofs.scans.a_query_has_one_scan.Goals as goal

pub returns : goal.returns
returns c = one_scan
