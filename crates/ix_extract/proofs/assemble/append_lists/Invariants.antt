use Rattle.std.proofs.Common.{◌≡◌, ◌≤◌, ◌++◌, ℕ, List, Some, length, take}
use Rattle.ix_extract.specs.Gathered.{lists_at}
use Rattle.ix_extract.proofs.assemble.append_lists.Given as goal

abbrev pub invariant-loop-one : goal.invariant-loop-one
invariant-loop-one g l = record {
  lists : (bytes : List ℕ) → g.S.ReadAt.contents l.fn.source ≡ Some bytes → l.out.items ≡ l.initial.out.items ++ lists_at bytes (take l.one-index l.found);
  longer : length l.initial.out.items ≤ length l.out.items;
}
