use Rattle.std.proofs.Common.{◌≡◌, ◌≤◌, ◌++◌, vec_capacity}
use Rattle.ix_vbyte.proofs.cursor.Posting.read_positions.Given as goal

abbrev pub invariant-loop-position : goal.invariant-loop-position
invariant-loop-position l = record {
  can : (goal.iterator-loop-position).can_next l.position-iterator;
  ends : (goal.iterator-loop-position).is_finite l.position-iterator;
  room : vec_capacity l.initial.positions ≤ vec_capacity l.positions;
  read : l.positions.items ++ l.position-iterator ≡ l.self.positions;
}
