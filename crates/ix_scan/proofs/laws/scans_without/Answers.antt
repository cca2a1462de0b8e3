use Rattle.ix_scan.specs.ScanLaws.{At}
use Rattle.ix_scan.proofs.ScanLemmas.{one_scan_without, scan_more, whole_scan}
use Rattle.ix_scan.proofs.laws.scans_without.Goals as goal

pub returns-clause-one : goal.returns-clause-one
returns-clause-one c = λ collection gone. one_scan_without collection (At gone)

pub returns-clause-whole : goal.returns-clause-whole
returns-clause-whole c = λ collection gone. whole_scan collection (At gone)

pub returns-clause-more : goal.returns-clause-more
returns-clause-more c = λ stop before behind gone test query found numbers leaves one other. scan_more stop before behind (At gone) test query found numbers leaves one other
