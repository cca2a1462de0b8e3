-- Both operands of `terms` are required.
use Rattle.std.proofs.Common.{codes, refl}
use Rattle.ix_line.specs.Commands.{ix_app, ix_built}
use Rattle.ix_line.proofs.Rows.{operand_given}
use Rattle.ix_line.proofs.line.terms_line.Goals as goal

pub operand-requires : goal.operand-requires
unfolding ix_app
operand-requires c = operand_given ix_built (codes "terms") _ _ refl c.requires

pub operand-requires-2 : goal.operand-requires-2
unfolding ix_app
operand-requires-2 c = operand_given ix_built (codes "terms") _ _ refl c.requires
