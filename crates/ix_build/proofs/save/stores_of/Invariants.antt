use Rattle.std.proofs.Common.{◌≡◌, ◌+◌, ◌≤◌, ◌++◌, map, length, vec_len}
use Rattle.std.specs.Vec.{vec_capacity}
use Rattle.std.specs.Vec.Iter.{into_iter_items}
use Rattle.ix_build.specs.SavingMakers.{store_of}
use Rattle.ix_build.proofs.save.stores_of.Given as goal

abbrev pub invariant-loop-maker : goal.invariant-loop-maker
invariant-loop-maker g l = record {
  told : map store_of l.fn.makers.items ≡ l.stores.items ++ map store_of (into_iter_items l.maker-iterator);
  room : vec_len l.stores + length (into_iter_items l.maker-iterator) ≤ vec_capacity l.stores;
}
