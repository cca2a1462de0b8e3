use Rattle.std.proofs.Common.{◌≡◌, ◌≤◌, map, vec_len, All}
use Rattle.std.specs.Vec.{vec_capacity}
use Rattle.ix_text.specs.Docs.{named_text}
use Rattle.ix_build.specs.BlockMakers.{IsMakerOf}
use Rattle.ix_build.proofs.in_memory.makers_of.Given as goal

abbrev pub invariant-loop : goal.invariant-loop
invariant-loop g l = record {
  each : All (IsMakerOf (map named_text l.docs) l.stop l.bounds) l.makers.items;
  counted : vec_len l.makers ≡ l.counter;
  room : l.workers ≤ vec_capacity l.makers;
}
