-- The operands of `check` are required.
use Rattle.std.proofs.Common.{codes, refl}
use Rattle.ix_line.specs.Commands.{ix_app, ix_built}
use Rattle.ix_line.proofs.Rows.{operands_given}
use Rattle.ix_line.proofs.line.check_line.Goals as goal

pub operands-requires : goal.operands-requires
unfolding ix_app
operands-requires c = operands_given ix_built (codes "check") _ _ refl c.requires
