use Rattle.std.proofs.Common.{◌≡◌, ◌≤◌, Some, length, map, take}
use Rattle.std.specs.String.{string_bytes}
use Rattle.std.specs.Prelude.{vec_capacity}
use Rattle.ix_live.specs.Names.{name_in_rows}
use Rattle.ix_live.specs.Segments.{rows_in}
use Rattle.ix_live.proofs.find_names.find_names.Given as goal

abbrev pub invariant-loop-number : goal.invariant-loop-number
invariant-loop-number l = record {
  made : length l.names.items ≡ l.number-index;
  room : length l.numbers ≤ vec_capacity l.names;
  named : map (λ name. Some (string_bytes name)) l.names.items ≡ map (name_in_rows (rows_in l.segments)) (take l.number-index l.numbers);
}
