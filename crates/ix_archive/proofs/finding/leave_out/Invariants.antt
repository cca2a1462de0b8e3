use Rattle.std.proofs.Common.{length}
use Rattle.ix_file.specs.Opened.{names_of}
use Rattle.ix_archive.specs.Findings.{IsGoneFrom}
use Rattle.ix_archive.proofs.LeftLemmas.{LeftSoFar}
use Rattle.ix_archive.proofs.finding.leave_out.Given as goal

abbrev pub invariant-loop-number : goal.invariant-loop-number
invariant-loop-number l =
    LeftSoFar (IsGoneFrom l.removals l.first (names_of l.index.parts.rows)) (length l.index.parts.rows) l.numbers l.number-index l.left.items
