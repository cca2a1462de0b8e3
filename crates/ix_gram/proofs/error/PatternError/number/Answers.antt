use Rattle.std.proofs.Common.{rules}
use Rattle.ix_gram.proofs.error.PatternError.number.Goals as goal

-- The check finds it too; with an answer a wrong body that falls here is refused sooner.
pub returns-in-BareStar : goal.returns-in-BareStar
returns-in-BareStar c = search rules
