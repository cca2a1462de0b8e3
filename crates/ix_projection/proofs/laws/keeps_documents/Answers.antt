use Rattle.ix_projection.proofs.KeptLemmas.{names_kept, rows_kept}
use Rattle.ix_projection.proofs.laws.keeps_documents.Goals as goal

pub returns-clause-rows : goal.returns-clause-rows
returns-clause-rows c = rows_kept

pub returns-clause-names : goal.returns-clause-names
returns-clause-names c = names_kept
