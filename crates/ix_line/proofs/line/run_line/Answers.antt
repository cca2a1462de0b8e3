-- Both operands of `run` are required, and its number is one in the range.
use Rattle.std.proofs.Common.{arith, codes, lit<, refl}
use Rattle.ix_line.specs.Commands.{ix_app, ix_built}
use Rattle.ix_line.proofs.Numbers.{number_in_given}
use Rattle.ix_line.proofs.Plans.{at_most_or, is_number}
use Rattle.ix_line.proofs.Rows.{operand_given}
use Rattle.ix_line.proofs.line.run_line.Goals as goal

pub number_or-first-requires : goal.number_or-first-requires
unfolding ix_app
number_or-first-requires c =
    is_number 0 268435456 _ (number_in_given ix_built (codes "run") (codes "first") _ 0 268435456 (lit< tt) refl c.requires)

pub operand-collection-requires : goal.operand-collection-requires
unfolding ix_app
operand-collection-requires c = operand_given ix_built (codes "run") _ _ refl c.requires

pub operand-run-requires : goal.operand-run-requires
unfolding ix_app
operand-run-requires c = operand_given ix_built (codes "run") _ _ refl c.requires

pub returns : goal.returns
unfolding ix_app
returns c = (
  refl,
  c.option-stop.ensures,
  c.number_or-first.ensures,
  c.operand-collection.ensures,
  c.operand-run.ensures,
  at_most_or 0 268435456 0 _ _ (omega arith) (number_in_given ix_built (codes "run") (codes "first") _ 0 268435456 (lit< tt) refl c.requires)
      c.number_or-first.ensures,
)
