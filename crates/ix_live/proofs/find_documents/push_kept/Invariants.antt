use Rattle.std.proofs.Common.{◌≡◌, ◌++◌, take}
use Rattle.ix_scan.specs.ScansWithout.{kept_from}
use Rattle.ix_live.specs.Findings.{is_kept}
use Rattle.ix_live.proofs.find_documents.push_kept.Given as goal

abbrev pub invariant-loop-number : goal.invariant-loop-number
invariant-loop-number l = l.found.items ≡ l.initial.found.items ++ kept_from (is_kept l.removed) l.first (take l.number-index l.numbers)
