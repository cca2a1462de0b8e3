-- What the merge wrote is of the texts that the readers stand in.
use Rattle.ix_ask.specs.Merging.{texts_behind, unmerged}
use Rattle.ix_ask.proofs.MergingLemmas.{all_begun, all_unread, merged}
use Rattle.ix_ask.proofs.merge_runs.merge_alone.Goals as goal

pub merge-requires : goal.merge-requires
merge-requires c = record { unread = all_unread (texts_behind c.args.runs.now) c.in_ok-readers.readers.items c.in_ok-readers.ensures.reading }

pub returns-in-Ok-clause-merged : goal.returns-in-Ok-clause-merged
returns-in-Ok-clause-merged c =
    merged (texts_behind c.args.runs.now) c.in_ok-readers.readers.items c.in_ok-readers.ensures.reading c.new-index.result.items c.merge.new.out.items c.new-index.ensures.items c.in-Ok.ensures.written

pub returns-in-Err-clause-refused : goal.returns-in-Err-clause-refused
returns-in-Err-clause-refused c =
    unmerged _ (all_begun (texts_behind c.args.runs.now) c.in_ok-readers.readers.items c.in_ok-readers.ensures.reading) c.in-Err.ensures.refused
