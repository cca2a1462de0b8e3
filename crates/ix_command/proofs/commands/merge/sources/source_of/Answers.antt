-- The source of the index of a number.
use Rattle.ix_command.proofs.MergedFileLemmas.{source_of_index}
use Rattle.ix_command.proofs.commands.merge.sources.source_of.Goals as goal

pub returns-in_ok-source-in-Index : goal.returns-in_ok-source-in-Index
returns-in_ok-source-in-Index g c =
    source_of_index c.args.indexes.now c.args.part c.in-Index.first c.in-Index.number c.index-indexes-number.result c.in_ok-source-in-Index.source c.in-Index.is c.index-indexes-number.is c.requires c.in_ok-source-in-Index.ensures.value
