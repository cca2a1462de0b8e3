use Rattle.std.proofs.Common.{◌-◌, ◌^◌}
use Rattle.ix_query.specs.Meetings.{HasNear}
use Rattle.ix_query.proofs.SiftLemmas.{Sifted}
use Rattle.ix_query.proofs.answers.near.first_near.Given as goal

-- the terms are near in none of the documents that were passed
abbrev pub invariant-loop-document : goal.invariant-loop-document
invariant-loop-document l = Sifted (λ number place. HasNear l.initial.first l.initial.second l.distance number) (λ number place. HasNear l.first l.second l.distance number) l.low l.least

abbrev pub decreases-loop-document : goal.decreases-loop-document
decreases-loop-document l = 2 ^ 32 - l.least
