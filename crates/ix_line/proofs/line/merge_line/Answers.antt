-- Both operands of `merge` are required.
use Rattle.std.proofs.Common.{codes, refl}
use Rattle.ix_line.specs.Commands.{ix_app, ix_built}
use Rattle.ix_line.proofs.Rows.{operand_given, operands_given}
use Rattle.ix_line.proofs.line.merge_line.Goals as goal

pub operand-index-requires : goal.operand-index-requires
unfolding ix_app
operand-index-requires c = operand_given ix_built (codes "merge") _ _ refl c.requires

pub operands-requires : goal.operands-requires
unfolding ix_app
operands-requires c = operands_given ix_built (codes "merge") _ _ refl c.requires
