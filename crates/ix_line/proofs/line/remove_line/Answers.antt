-- The archive of `remove` is required.
use Rattle.std.proofs.Common.{codes, refl}
use Rattle.ix_line.specs.Commands.{ix_app, ix_built}
use Rattle.ix_line.proofs.Rows.{operand_given}
use Rattle.ix_line.proofs.line.remove_line.Goals as goal

pub operand-archive-requires : goal.operand-archive-requires
unfolding ix_app
operand-archive-requires c = operand_given ix_built (codes "remove") _ _ refl c.requires
