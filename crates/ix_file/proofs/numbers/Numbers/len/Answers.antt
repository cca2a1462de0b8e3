use Rattle.std.proofs.Common.{rules}
use Rattle.ix_file.proofs.numbers.Numbers.len.Goals as goal

-- The check finds it too; with an answer a wrong body that falls here is refused sooner.
pub returns : goal.returns
returns c = search rules
