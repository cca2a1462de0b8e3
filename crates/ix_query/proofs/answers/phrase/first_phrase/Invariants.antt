use Rattle.std.proofs.Common.{◌-◌, ◌^◌}
use Rattle.ix_query.specs.Meetings.{HasPhraseIn}
use Rattle.ix_query.proofs.SiftLemmas.{Sifted}
use Rattle.ix_query.proofs.answers.phrase.first_phrase.Given as goal

-- the phrase stands in none of the documents that were passed
abbrev pub invariant-loop-document : goal.invariant-loop-document
invariant-loop-document l = Sifted (λ number place. HasPhraseIn l.initial.first l.offset l.initial.others l.offsets number) (λ number place. HasPhraseIn l.first l.offset l.others l.offsets number) l.low l.least

abbrev pub decreases-loop-document : goal.decreases-loop-document
decreases-loop-document l = 2 ^ 32 - l.least
