use Rattle.std.proofs.Common.{rules}
use Rattle.ix_index_text.proofs.writer.IndexWriter+W.is_ready.Goals as goal

-- The check finds it too; with an answer a wrong body that falls here is refused sooner.
pub returns : goal.returns
returns g c = search rules
