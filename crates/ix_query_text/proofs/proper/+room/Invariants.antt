-- each earlier part fits
use Rattle.std.proofs.Common.{◌≤◌}
use Rattle.ix_query_text.specs.Proper.{depths}
use Rattle.ix_query_text.specs.Places.{depth_at}
use Rattle.ix_query_text.proofs.EachBefore.{EachBefore}
use Rattle.ix_query_text.proofs.proper.+room.Given as goal

abbrev pub invariant-all_fit-loop-part : goal.invariant-all_fit-loop-part
invariant-all_fit-loop-part l = EachBefore (λ part. depth_at l.place (depths part) ≤ l.room) l.parts l.part-index
