use Rattle.std.proofs.Common.{ap, is_some, sym}
use Rattle.ix_index_text.proofs.GramNotes.{list_wanted, noted_more, notes_more}
use Rattle.ix_index_text.proofs.writer.grams.note.Goals as goal

pub add-requires-clause-listed : goal.add-requires-clause-listed
add-requires-clause-listed c = list_wanted _ c.in-Some.list.now c.args.number (sym c.in-Some.ensures.value) c.requires.listed

pub returns-in-Some : goal.returns-in-Some
returns-in-Some c =
    noted_more c.add.result
    (λ grows. notes_more c.args.lists.now (c.get_mut.follows.lender c.add.new.self) c.args.gram c.args.number c.add.new.self
    ((c.get_mut.follows.holds c.add.new.self).3 (sym (ap is_some c.in-Some.ensures.value))) c.in-Some.list.now (sym c.in-Some.ensures.value) grows)
    c.add.ensures
