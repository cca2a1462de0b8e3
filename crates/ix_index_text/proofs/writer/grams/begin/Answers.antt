use Rattle.ix_index_text.proofs.GramNotes.{notes_first}
use Rattle.ix_index_text.proofs.writer.grams.begin.Goals as goal

pub returns : goal.returns
returns c =
    notes_first c.args.lists.now c.insert.new.self c.args.gram c.args.number c.add.new.self c.in_ok-insert.ensures.updates c.none-list.result c.requires.absent c.none-list.ensures c.in_ok-add.ensures
