use Rattle.std.proofs.Common.{[]}
use Rattle.ix_file.specs.GramWalks.{AreWalked}
use Rattle.ix_file.specs.PlacedTerms.{terms_in}
use Rattle.ix_file.proofs.open.gram_walk.walk_side.Given as goal

abbrev pub invariant-loop-number : goal.invariant-loop-number
invariant-loop-number l = AreWalked l.side (terms_in l.terms) l.section l.rows l.number [] l.cursors.items
