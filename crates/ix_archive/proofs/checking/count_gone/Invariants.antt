use Rattle.std.proofs.Common.{◌≤◌}
use Rattle.ix_file.specs.Opened.{names_of}
use Rattle.ix_archive.specs.Checks.{AreCounted}
use Rattle.ix_archive.specs.Findings.{IsGoneFrom}
use Rattle.ix_archive.proofs.CountLemmas.{Below}
use Rattle.ix_archive.proofs.checking.count_gone.Given as goal

abbrev pub invariant-loop-number : goal.invariant-loop-number
invariant-loop-number l =
    (l.count ≤ l.number) × AreCounted (Below l.number (IsGoneFrom l.removals l.first (names_of l.index.parts.rows))) l.count
