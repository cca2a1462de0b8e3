-- Both operands of `add` are required, and its numbers are in their ranges.
use Rattle.std.proofs.Common.{codes, lit<, refl}
use Rattle.ix_line.specs.Commands.{ix_app, ix_built}
use Rattle.ix_line.proofs.Numbers.{number_in_given}
use Rattle.ix_line.proofs.Rows.{operand_given}
use Rattle.ix_line.proofs.line.add_line.Goals as goal

pub read_plan-requires-clause-block : goal.read_plan-requires-clause-block
unfolding ix_app
read_plan-requires-clause-block c = number_in_given ix_built (codes "add") (codes "block") _ 1 268435456 (lit< tt) refl c.requires

pub read_plan-requires-clause-bytes : goal.read_plan-requires-clause-bytes
unfolding ix_app
read_plan-requires-clause-bytes c = number_in_given ix_built (codes "add") (codes "bytes") _ 1 268435456 (lit< tt) refl c.requires

pub read_plan-requires-clause-workers : goal.read_plan-requires-clause-workers
unfolding ix_app
read_plan-requires-clause-workers c = number_in_given ix_built (codes "add") (codes "workers") _ 1 64 (lit< tt) refl c.requires

pub operand-archive-requires : goal.operand-archive-requires
unfolding ix_app
operand-archive-requires c = operand_given ix_built (codes "add") _ _ refl c.requires

pub operand-collection-requires : goal.operand-collection-requires
unfolding ix_app
operand-collection-requires c = operand_given ix_built (codes "add") _ _ refl c.requires
