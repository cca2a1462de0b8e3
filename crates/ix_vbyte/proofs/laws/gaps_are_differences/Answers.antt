use Rattle.ix_vbyte.proofs.Gaps.{length-gaps_from, gaps_from-first, gaps_from-differences}
use Rattle.ix_vbyte.proofs.laws.gaps_are_differences.Goals as goal

pub returns-clause-len : goal.returns-clause-len
returns-clause-len c xs = length-gaps_from 0 xs

pub returns-clause-first : goal.returns-clause-first
returns-clause-first c xs h = gaps_from-first xs h

pub returns-clause-later : goal.returns-clause-later
returns-clause-later c top xs a k h = gaps_from-differences 0 top xs k a h
