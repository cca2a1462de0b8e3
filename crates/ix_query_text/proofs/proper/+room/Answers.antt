use Rattle.std.proofs.Common.{◌≤◌}
use Rattle.ix_query_text.specs.Places.{depth_at}
use Rattle.ix_query_text.specs.Proper.{depths}
use Rattle.ix_query_text.specs.declared.tree.Tree.{Tree}
use Rattle.ix_query_text.specs.declared.tree.Tree.TheVariants as tree
use Rattle.ix_query_text.proofs.TreeLemmas.{judged, room-And, room-Or}
use Rattle.ix_query_text.proofs.proper.+room.Goals as goal

pub fits-returns-then-opened-room : goal.fits-returns-then-opened-room
fits-returns-then-opened-room t c =
    judged (λ (whole : Tree). depth_at c.args.place (depths whole) ≤ c.args.room) _ (tree.And c.in-And.parts) _ c.in-And.is
    (room-And c.args.place c.args.room c.in-And.parts (rw c.brackets_of_and-opened.ensures at c.if-opened-room.true))
    (rw (c.as_slice.ensures, c.brackets_of_and-opened.ensures) at c.all_fit.ensures)

pub fits-returns-then-opened-room-2 : goal.fits-returns-then-opened-room-2
fits-returns-then-opened-room-2 t c =
    judged (λ (whole : Tree). depth_at c.args.place (depths whole) ≤ c.args.room) _ (tree.Or c.in-Or.parts) _ c.in-Or.is
    (room-Or c.args.place c.args.room c.in-Or.parts (rw c.brackets_of_or-opened.ensures at c.if-opened-room-2.true))
    (rw (c.as_slice-then-opened-room-2.ensures, c.brackets_of_or-opened.ensures) at c.all_fit-then-opened-room-2.ensures)
