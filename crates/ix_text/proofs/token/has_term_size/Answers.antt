use Rattle.std.proofs.Common.{rules}
use Rattle.ix_text.proofs.token.has_term_size.Goals as goal

-- The check finds it too; with an answer a wrong body that falls here is refused sooner.
pub returns-then-term-gt0 : goal.returns-then-term-gt0
returns-then-term-gt0 c = search rules
