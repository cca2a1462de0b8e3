use Rattle.std.proofs.Common.{◌-◌}
use Rattle.ix_file.specs.PlacedTerms.{terms_in}
use Rattle.ix_file.proofs.Halving.{IsBetween}
use Rattle.ix_file.proofs.index.place_of.Given as goal

abbrev pub invariant-loop-low : goal.invariant-loop-low
invariant-loop-low l = IsBetween (terms_in l.terms) l.term l.low l.high

abbrev pub decreases-loop-low : goal.decreases-loop-low
decreases-loop-low l = l.high - l.low
