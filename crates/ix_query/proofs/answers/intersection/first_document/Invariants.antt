use Rattle.std.proofs.Common.{◌-◌, ◌^◌}
use Rattle.ix_query.specs.DocStreams.{IsInIntersection}
use Rattle.ix_query.proofs.SiftLemmas.{Sifted}
use Rattle.ix_query.proofs.answers.intersection.first_document.Given as goal

-- none of the documents that were passed is one that is asked for
abbrev pub invariant-loop-document : goal.invariant-loop-document
invariant-loop-document l = Sifted (λ number place. IsInIntersection l.initial.first l.initial.others l.initial.absent number) (λ number place. IsInIntersection l.first l.others l.absent number) l.low l.least

abbrev pub decreases-loop-document : goal.decreases-loop-document
decreases-loop-document l = 2 ^ 32 - l.least
