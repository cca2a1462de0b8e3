use Rattle.ix_vbyte.proofs.Fronts.{HasRead}
use Rattle.ix_vbyte.proofs.decoding.read.Given as goal

abbrev pub invariant-loop-place : goal.invariant-loop-place
invariant-loop-place l = HasRead l.bytes l.place l.number
