use Rattle.std.proofs.Common.{◌++◌, ◌∷◌, []}
use Rattle.ix_index_text.proofs.GramNotes.{one_window_more, wanted_of, windows-none, windows-whole}
use Rattle.ix_index_text.proofs.TermPairs.{paired, under_way-start, under_way-step, under_way-end}
use Rattle.ix_index_text.proofs.writer.grams.note_windows.Goals as goal

pub loop-gram-init : goal.loop-gram-init
loop-gram-init c = record {
  can = tt;
  ends = tt;
  seen = [];
  under_way = rw (c.into_iter-gram-iterator.ensures.into_iter_gives, c.windows_of-gram-items.ensures) (under_way-start [] c.args.number c.args.term.now);
  holds = λ terms counted held. windows-none c.args.lists.now terms c.args.number held;
}

pub note-requires-clause-listed : goal.note-requires-clause-listed
note-requires-clause-listed c =
    let (terms, counted, held) = c.requires.held in
    let so_far = c.loop-gram.invariant in
    wanted_of c.loop-gram.lists terms c.args.number so_far.seen c.in-Some.gram (so_far.holds terms counted held)

pub loop-gram-preserved : goal.loop-gram-preserved
loop-gram-preserved c =
    let so_far = c.loop-gram.invariant in
    record {
      can = tt;
      ends = tt;
      seen = so_far.seen ++ paired c.args.number c.in-Some.gram ∷ [];
      under_way = under_way-step _ _ _ _ _ _ _ so_far.under_way c.in-Some.ensures.steps;
      holds = λ terms counted held. one_window_more c.loop-gram.lists c.note.new.lists c.in-Some.gram c.args.number c.in_ok-note.ensures terms so_far.seen (so_far.holds terms counted held);
    }

pub returns : goal.returns
returns c = λ terms counted held.
    let so_far = c.loop-gram.invariant in
    windows-whole c.loop-gram.lists terms c.args.number c.args.term.now counted c.utf8.term so_far.seen
    (under_way-end [] _ _ _ _ so_far.under_way c.in-None.ensures.steps.0)
    (so_far.holds terms counted held)
