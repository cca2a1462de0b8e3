use Rattle.std.proofs.Common.{◌≡◌, ◌≤◌, vec_len, All, Some}
use Rattle.std.specs.Vec.{vec_capacity}
use Rattle.std.specs.Arc.{arc_value}
use Rattle.left_right.specs.Sides.{view}
use Rattle.ix_live.specs.Identities.{shown_in}
use Rattle.ix_live.proofs.open.make_searchers.Given as goal

abbrev pub invariant-loop : goal.invariant-loop
invariant-loop l = record {
  known : view l.writer.desk.place ≡ Some (arc_value l.edition);
  shown : shown_in l.writer.desk.shown.value ≡ shown_in l.fn.writer.desk.shown.value;
  each : All (λ searcher. searcher ≡ arc_value l.edition) l.made.items;
  counted : vec_len l.made ≡ l.counter;
  room : l.count ≤ vec_capacity l.made;
}
