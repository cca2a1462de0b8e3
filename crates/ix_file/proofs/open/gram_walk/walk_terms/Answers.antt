use Rattle.std.proofs.Common.{arith}
use Rattle.ix_file.proofs.open.gram_walk.walk_terms.Goals as goal

pub walk_side-requires-clause-on : goal.walk_side-requires-clause-on
walk_side-requires-clause-on c k d low key keyed = omega arith
