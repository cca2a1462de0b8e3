use Rattle.ix_index_text.proofs.EndingLemmas.{on_ok_text}
use Rattle.ix_index_text.proofs.writer.IndexWriter+W.finish.Goals as goal

pub returns-clause-index_text : goal.returns-clause-index_text
returns-clause-index_text g c before told collection is may lawful parts =
    on_ok_text _ before _ told collection lawful parts (c.complete.ensures.told before told is may)
