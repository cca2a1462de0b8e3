use Rattle.std.proofs.Common.{◌-◌}
use Rattle.ix_file.specs.OpenedGrams.{grams_in}
use Rattle.ix_file.proofs.GramFinding.{texts_of}
use Rattle.ix_file.proofs.Halving.{IsBetween}
use Rattle.ix_file.proofs.open.grams.find_gram.Given as goal

abbrev pub invariant-loop-low : goal.invariant-loop-low
invariant-loop-low l = IsBetween (texts_of (grams_in l.section l.rows)) l.gram l.low l.high

abbrev pub decreases-loop-low : goal.decreases-loop-low
decreases-loop-low l = l.high - l.low
