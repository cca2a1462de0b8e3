use Rattle.std.proofs.Common.{◌≡◌, ◌+◌, ◌≤◌, ◌++◌, Ok, length, map, vec_len}
use Rattle.std.specs.Vec.{vec_capacity}
use Rattle.std.specs.Vec.Iter.{into_iter_items}
use Rattle.ix_script.proofs.ask.all_found.Given as goal

abbrev pub invariant-loop-names : goal.invariant-loop-names
invariant-loop-names l = record {
  room : vec_len l.answers + length (into_iter_items l.names-iterator) ≤ vec_capacity l.answers;
  all : map (λ names. Ok names) l.answers.items ++ into_iter_items l.names-iterator ≡ l.fn.found.items;
}
