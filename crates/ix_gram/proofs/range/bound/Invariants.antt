use Rattle.std.proofs.Common.{◌-◌}
use Rattle.ix_text.specs.Parts.{terms_of}
use Rattle.ix_gram.proofs.FrontLemmas.{IsBetween}
use Rattle.ix_gram.proofs.range.bound.Given as goal

abbrev pub invariant-loop-low : goal.invariant-loop-low
invariant-loop-low l = IsBetween (terms_of l.index.parts.entries) l.text l.past l.low l.high

abbrev pub decreases-loop-low : goal.decreases-loop-low
decreases-loop-low l = l.high - l.low
