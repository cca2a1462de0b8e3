use Rattle.std.proofs.Common.{map}
use Rattle.ix_text.specs.Collections.{collection_of}
use Rattle.ix_text.specs.Docs.{named_text}
use Rattle.ix_query.proofs.ScanLemmas.{IsScanBefore}
use Rattle.ix_query.proofs.scans.scan.Given as goal

-- the numbers so far are those of the documents so far
abbrev pub invariant-loop-number : goal.invariant-loop-number
invariant-loop-number l = IsScanBefore (collection_of l.stop (map named_text l.documents)) l.query l.number l.found.items
