use Rattle.ix_vbyte.proofs.Gaps.{numbers_from-gaps_from, gaps_from-numbers_from, gaps_from-positive}
use Rattle.ix_vbyte.proofs.laws.gaps_come_back.Goals as goal

pub returns-clause-numbers : goal.returns-clause-numbers
returns-clause-numbers c top xs a = numbers_from-gaps_from 0 top xs a

pub returns-clause-gaps : goal.returns-clause-gaps
returns-clause-gaps c gaps h = gaps_from-numbers_from 0 gaps h

pub returns-clause-positive : goal.returns-clause-positive
returns-clause-positive c top xs a = gaps_from-positive 0 top xs a
