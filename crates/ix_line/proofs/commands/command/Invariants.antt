use Rattle.std.proofs.Common.{take}
use Rattle.std.specs.List.{AllZip}
use Rattle.ix_line.proofs.Building.{IsArgumentOf}
use Rattle.ix_line.proofs.commands.command.Given as goal

abbrev pub invariant-loop-argument : goal.invariant-loop-argument
invariant-loop-argument l = AllZip IsArgumentOf (take l.argument-index l.form.arguments.now) l.arguments.items
