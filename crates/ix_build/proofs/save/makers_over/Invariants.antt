use Rattle.std.proofs.Common.{◌≡◌, ◌+◌, ◌≤◌, ◌++◌, map, length, vec_len, All}
use Rattle.std.specs.Vec.{vec_capacity}
use Rattle.std.specs.Vec.Iter.{into_iter_items}
use Rattle.ix_text.specs.Docs.{named_text}
use Rattle.ix_build.specs.SavingMakers.{IsSavingMakerOf, store_of}
use Rattle.ix_build.proofs.save.makers_over.Given as goal

abbrev pub invariant-loop-store : goal.invariant-loop-store
invariant-loop-store g l = record {
  told : l.fn.stores.items ≡ map store_of l.makers.items ++ into_iter_items l.store-iterator;
  each : All (IsSavingMakerOf (map named_text l.docs) l.stop l.bounds) l.makers.items;
  room : vec_len l.makers + length (into_iter_items l.store-iterator) ≤ vec_capacity l.makers;
}
