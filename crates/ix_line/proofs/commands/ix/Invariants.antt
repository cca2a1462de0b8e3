use Rattle.std.proofs.Common.{take}
use Rattle.std.specs.List.{AllZip}
use Rattle.ix_line.proofs.Building.{IsCommandOf}
use Rattle.ix_line.proofs.commands.ix.Given as goal

abbrev pub invariant-loop-form : goal.invariant-loop-form
invariant-loop-form l = AllZip IsCommandOf (take l.form-index l.forms) l.commands.items
