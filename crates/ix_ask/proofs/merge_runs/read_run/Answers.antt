-- What the reader tells is what the text spells.
use Rattle.ix_ask.proofs.MergingLemmas.{reading, refused}
use Rattle.ix_ask.proofs.merge_runs.read_run.Goals as goal

pub returns-clause-reading : goal.returns-clause-reading
returns-clause-reading c =
    reading c.args.run.now c.open.result _ c.open.ensures.taken c.open.ensures.lawful c.open.ensures.unread c.open.ensures.yields

pub returns-clause-refused : goal.returns-clause-refused
returns-clause-refused c = refused _ c.args.run.now c.open.result c.open.ensures.accepted
