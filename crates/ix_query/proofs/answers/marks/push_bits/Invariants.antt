use Rattle.ix_query.proofs.BitLemmas.{BitsAdded}
use Rattle.ix_query.proofs.answers.marks.push_bits.Given as goal

-- the places of the bits so far, and the bits that are left
abbrev pub invariant-loop-rest : goal.invariant-loop-rest
invariant-loop-rest l = BitsAdded l.initial.found.items l.found.items l.word l.rest l.start

abbrev pub decreases-loop-rest : goal.decreases-loop-rest
decreases-loop-rest l = l.rest
